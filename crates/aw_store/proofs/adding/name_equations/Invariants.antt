use Rattle.std.proofs.Common.{◌≡◌, take, true, map}
use Rattle.aw_store.specs.EquationView.{equation_of}
use Rattle.aw_store.specs.NamedRefs.{has_names, all_refs_in, IsNamedOnce, Grows, NamesOnly}
use Rattle.aw_store.proofs.adding.name_equations.Given as goal

abbrev pub invariant-loop-e : goal.invariant-loop-e
invariant-loop-e l = IsNamedOnce l.names.items × Grows l.fn.names.items l.names.items × NamesOnly l.fn.names.items l.names.items
    (all_refs_in (map equation_of l.es)) × (has_names l.names.items (map equation_of (take l.e-index l.es)) ≡ true)
