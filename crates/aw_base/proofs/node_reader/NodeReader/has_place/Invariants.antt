use Rattle.std.proofs.Common.{◌+◌, ◌-◌, length}
use Rattle.aw_term.specs.Rules.{Grammar}
use Rattle.aw_term.specs.Artifacts.{Words}
use Rattle.aw_base.specs.ReadFronts.{HasRead}
use Rattle.aw_base.proofs.node_reader.NodeReader.has_place.Given as goal

abbrev pub invariant-loop-self : goal.invariant-loop-self
invariant-loop-self l = (w : Words) (g : Grammar) → HasRead w g l.initial.self → HasRead w g l.self

abbrev pub decreases-loop-self : goal.decreases-loop-self
decreases-loop-self l = l.place + 1 - length l.self.names.items
