use Rattle.aw_iograph.specs.Rows.{Joins}
use Rattle.aw_iograph.proofs.StepArcs.{IsEarly}
use Rattle.aw_iograph.proofs.joins.join_calls.Given as goal

abbrev pub invariant-loop-pair : goal.invariant-loop-pair
invariant-loop-pair l = Joins (IsEarly l.io l.sort l.child l.pair) l.initial.rows.items l.rows.items l.initial.read.items l.read.items l.again
