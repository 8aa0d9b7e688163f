use Rattle.std.proofs.Common.{take}
use Rattle.aw_store.specs.NamedRefs.{AreNamed}
use Rattle.table_equations.proofs.weigh.slots_of.Given as goal

abbrev pub invariant-loop-r : goal.invariant-loop-r
invariant-loop-r g l = AreNamed (g.F.Facts.names l.f) l.slots.items (take l.r-index l.refs)
