use Rattle.std.proofs.Common.{◌≡◌, ◌++◌, take}
use Rattle.std.specs.List.{flat_map}
use Rattle.aw_codec.specs.Names.{spelled_step}
use Rattle.aw_term.specs.WellFormed.{Each}
use Rattle.aw_codec.specs.Ranges.{StepSized}
use Rattle.aw_codec.proofs.writing.add_steps.Given as goal

abbrev pub invariant-loop-step : goal.invariant-loop-step
invariant-loop-step l = record {
  added : l.text ≡ l.initial.text ++ flat_map spelled_step (take l.step-index l.steps);
  sized : Each StepSized (take l.step-index l.steps);
}
