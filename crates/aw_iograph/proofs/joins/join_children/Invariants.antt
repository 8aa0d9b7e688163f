use Rattle.aw_iograph.specs.Arcs.{IsOfChildren}
use Rattle.aw_iograph.specs.Rows.{Joins}
use Rattle.aw_iograph.proofs.joins.join_children.Given as goal

abbrev pub invariant-loop-k : goal.invariant-loop-k
invariant-loop-k l = Joins (IsOfChildren l.entries l.io l.children l.k) l.initial.rows.items l.rows.items l.initial.read.items l.read.items l.again
