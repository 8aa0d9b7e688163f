use Rattle.std.proofs.Common.{◌≡◌, ◌++◌, take}
use Rattle.aw_grammar.specs.GrammarOf.{words_of}
use Rattle.aw_book_text.proofs.MoveLines.{lines_of}
use Rattle.aw_book_text.proofs.text.push_moves.Given as goal

-- the lines of the moves so far were added
abbrev pub invariant-loop-step : goal.invariant-loop-step
invariant-loop-step l = record {
  named : l.names.grammar.now ≡ l.initial.names.grammar.now;
  text : l.text ≡ l.initial.text ++ lines_of (words_of l.initial.names.grammar.now) (take l.step-index l.moves);
}
