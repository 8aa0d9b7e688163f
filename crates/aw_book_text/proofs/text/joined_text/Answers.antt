use Rattle.std.proofs.Common.{◌++◌, cond, ap, ◌∙◌, []}
use Rattle.std.specs.Prelude.{codes}
use Rattle.aw_grammar.specs.GrammarOf.{words_of}
use Rattle.aw_book_text.proofs.MoveLines.{lines_of, whole-text}
use Rattle.aw_book_text.proofs.text.joined_text.Goals as goal

pub returns : goal.returns
returns c =
    let xs = c.args.moves.now in
    let end = cond c.args.settled (codes "settle\n") [] in
    c.in_ok-push_end.ensures
    ∙ (ap (λ t. t ++ end) (c.in_ok-push_moves.ensures ∙ (λ i. c.in_ok-text.ensures i ++ lines_of (words_of (c.new-names.ensures i)) xs))
    ∙ whole-text (words_of c.args.grammar.now) c.args.specification.now xs c.args.settled)
