use Rattle.aw_grammar.specs.GrammarOf.{grammar_of, words_of}
use Rattle.aw_run.proofs.Checking.{written}
use Rattle.aw_run.proofs.check.tell_specification.Goals as goal

pub returns : goal.returns
returns c =
    let g = c.args.accepted.now.grammar in
    written c.args.depends.now c.args.faces.now.offers c.args.free (words_of g) (grammar_of g) _ c.in_ok-checked_text.ensures
