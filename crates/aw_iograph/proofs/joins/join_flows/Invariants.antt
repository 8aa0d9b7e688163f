use Rattle.std.proofs.Common.{map}
use Rattle.aw_iograph.specs.Arcs.{arc_of}
use Rattle.aw_iograph.specs.Rows.{Joins}
use Rattle.aw_iograph.proofs.Joining.{IsAmong}
use Rattle.aw_iograph.proofs.joins.join_flows.Given as goal

abbrev pub invariant-loop-flow : goal.invariant-loop-flow
invariant-loop-flow l = Joins (IsAmong (map arc_of l.flows) l.flow-index) l.initial.rows.items l.rows.items l.initial.read.items l.read.items l.again
