use Rattle.std.proofs.Common.{◌≡◌, take}
use Rattle.aw_store.specs.NamedRefs.{parts_at}
use Rattle.aw_store.proofs.slots.parts_of.Given as goal

abbrev pub invariant-loop-k : goal.invariant-loop-k
invariant-loop-k g l = l.refs.items ≡ take l.k (parts_at (g.F.Facts.map l.f) (g.F.Facts.names l.f) l.slot)
