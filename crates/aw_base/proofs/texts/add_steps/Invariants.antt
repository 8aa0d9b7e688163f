use Rattle.std.proofs.Common.{◌≡◌, ◌++◌, drop}
use Rattle.std.specs.Io.{StartsWith}
use Rattle.aw_term.specs.Artifacts.{steps_text}
use Rattle.aw_grammar.specs.GrammarOf.{words_of}
use Rattle.aw_base.proofs.texts.add_steps.Given as goal

abbrev pub invariant-loop-step : goal.invariant-loop-step
invariant-loop-step l = record {
  added : l.text ++ steps_text (words_of l.g) (drop l.step-index l.steps) ≡ l.initial.text ++ steps_text (words_of l.g) l.steps;
  kept : StartsWith l.text l.initial.text;
}
