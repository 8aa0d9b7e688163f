use Rattle.std.proofs.Common.{◌≡◌, take}
use Rattle.aw_store.specs.NamedRefs.{AreNamed, Grows}
use Rattle.aw_store.proofs.slots.intern_all.Given as goal

abbrev pub invariant-loop-r : goal.invariant-loop-r
invariant-loop-r g l = record {
  map : g.F.Facts.map l.f ≡ g.F.Facts.map l.fn.f;
  names : Grows (g.F.Facts.names l.fn.f) (g.F.Facts.names l.f);
  slots : AreNamed (g.F.Facts.names l.f) l.slots.items (take l.r-index l.refs);
}
