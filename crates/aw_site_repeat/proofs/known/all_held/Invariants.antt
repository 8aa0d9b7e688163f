use Rattle.std.proofs.Common.{◌≡◌, drop, map}
use Rattle.aw_store.specs.EquationView.{equation_of}
use Rattle.aw_law_sites.specs.Receiving.{all_held}
use Rattle.aw_site_repeat.proofs.known.all_held.Given as goal

abbrev pub invariant-loop-e : goal.invariant-loop-e
invariant-loop-e g l = all_held (g.F.Facts.map l.facts) (map equation_of (drop l.e-index l.es)) ≡ all_held (g.F.Facts.map l.facts) (map equation_of l.es)
