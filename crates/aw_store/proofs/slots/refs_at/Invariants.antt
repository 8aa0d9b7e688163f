use Rattle.std.proofs.Common.{take}
use Rattle.aw_store.specs.NamedRefs.{AreNamed}
use Rattle.aw_store.proofs.slots.refs_at.Given as goal

abbrev pub invariant-loop-slot : goal.invariant-loop-slot
invariant-loop-slot g l = AreNamed (g.F.Facts.names l.f) (take l.slot-index l.slots) l.refs.items
