use Rattle.std.proofs.Common.{◌≡◌, ◌++◌, true, map, Contains}
use Rattle.std.specs.Vec.Iter.{into_iter_items}
use Rattle.aw_store.specs.Adding.{AreNew}
use Rattle.aw_store.specs.Equations.{Equation}
use Rattle.aw_store.specs.EquationView.{equation_of}
use Rattle.aw_store.specs.NamedRefs.{Grows}
use Rattle.aw_store.specs.StoreView.{all_few}
use Rattle.aw_store.proofs.ready.add_all_ready.Given as goal

abbrev pub invariant-loop-e : goal.invariant-loop-e
invariant-loop-e g l = record {
  equations : g.F.Facts.map l.f ++ map equation_of (into_iter_items l.e-iterator) ≡ g.F.Facts.map l.fn.f ++ map equation_of l.fn.es.items;
  new : AreNew (g.F.Facts.map l.f) (map equation_of (into_iter_items l.e-iterator));
  few : all_few (map equation_of (into_iter_items l.e-iterator)) ≡ true;
  ready : (e : Equation) → Contains (map equation_of (into_iter_items l.e-iterator)) e → g.F.Facts.is_ready l.f e;
  names : Grows (g.F.Facts.names l.fn.f) (g.F.Facts.names l.f);
}
