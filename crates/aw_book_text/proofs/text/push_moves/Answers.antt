use Rattle.std.proofs.Common.{◌+◌, ◌++◌, take, sym, ap, ◌∙◌, append_assoc}
use Rattle.aw_grammar.specs.GrammarOf.{words_of}
use Rattle.aw_grammar.specs.declared.grammar.Grammar.{Grammar}
use Rattle.aw_sched_writer.specs.Moves.{move_line}
use Rattle.aw_world.specs.MoveView.{move_of}
use Rattle.aw_book_text.proofs.MoveLines.{lines_of, lines-more}
use Rattle.aw_book_text.proofs.text.push_moves.Goals as goal

pub loop-step-preserved : goal.loop-step-preserved
loop-step-preserved c =
    let w = words_of c.args.names.now.grammar.now in
    let xs = c.args.moves.now in
    let i = c.loop-step.step-index in
    let x = c.step-item.result in
    let more = lines-more w xs i x c.loop-step-test.true c.step-item.is in
    record {
      named = c.push_move.ensures.grammar ∙ c.loop-step.invariant.named;
      text = c.in_ok-push_move.ensures.text
          ∙ (ap (λ (g : Grammar). c.loop-step.text ++ move_line (words_of g) (move_of x)) c.loop-step.invariant.named
          ∙ (ap (λ t. t ++ move_line w (move_of x)) c.loop-step.invariant.text
          ∙ (append_assoc c.args.text.now (lines_of w (take i xs)) (move_line w (move_of x)) ∙ ap (λ t. c.args.text.now ++ t) (sym more))));
    }
