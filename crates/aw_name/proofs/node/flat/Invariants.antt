use Rattle.std.proofs.Common.{◌≡◌, ◌++◌, drop}
use Rattle.aw_name.specs.Front.{flat}
use Rattle.aw_name.proofs.node.flat.Given as goal

abbrev pub invariant-loop-step : goal.invariant-loop-step
invariant-loop-step l = l.row.items ++ flat (drop l.step-index l.steps) ≡ flat l.steps
