use Rattle.std.proofs.Common.{◌≡◌, take}
use Rattle.aw_cells.specs.StoredBodies.{refs_of}
use Rattle.aw_cells.proofs.reading.refs_at.Given as goal

abbrev pub invariant-loop-slot : goal.invariant-loop-slot
invariant-loop-slot l = l.refs.items ≡ refs_of l.names (take l.slot-index l.slots)
