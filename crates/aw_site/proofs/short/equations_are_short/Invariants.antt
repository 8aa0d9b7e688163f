use Rattle.std.proofs.Common.{◌≡◌, drop, map}
use Rattle.aw_store.specs.EquationView.{equation_of}
use Rattle.aw_site.specs.Sendable.{short_equations}
use Rattle.aw_site.proofs.short.equations_are_short.Given as goal

abbrev pub invariant-loop-e : goal.invariant-loop-e
invariant-loop-e l = short_equations (map equation_of (drop l.e-index l.es)) ≡ short_equations (map equation_of l.es)
