use Rattle.std.proofs.Common.{◌≡◌, drop, map}
use Rattle.aw_store.specs.EquationView.{equation_of}
use Rattle.aw_store.specs.StoreView.{all_few}
use Rattle.table_equations.proofs.narrow.are_narrow.Given as goal

abbrev pub invariant-loop-e : goal.invariant-loop-e
invariant-loop-e l = all_few (map equation_of (drop l.e-index l.es)) ≡ all_few (map equation_of l.es)
