use Rattle.std.proofs.Common.{◌≡◌, drop, map}
use Rattle.aw_store.specs.Equations.{find}
use Rattle.aw_store.specs.EquationView.{equation_of}
use Rattle.aw_store.proofs.bodies.find_body.Given as goal

abbrev pub invariant-loop-equation : goal.invariant-loop-equation
invariant-loop-equation l = find (map equation_of (drop l.equation-index l.equations)) l.r ≡ find (map equation_of l.equations) l.r
