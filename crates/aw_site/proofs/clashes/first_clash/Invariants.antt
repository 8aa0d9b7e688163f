use Rattle.std.proofs.Common.{◌≡◌, take, drop, map}
use Rattle.aw_store.specs.EquationView.{equation_of}
use Rattle.aw_law_sites.specs.Receiving.{add_all, first_clash}
use Rattle.aw_site.proofs.clashes.first_clash.Given as goal

abbrev pub invariant-loop-i : goal.invariant-loop-i
invariant-loop-i g l =
    first_clash (add_all (g.F.Facts.map l.facts) (map equation_of (take l.i l.es))) (map equation_of (drop l.i l.es)) ≡ first_clash (g.F.Facts.map l.facts) (map equation_of l.es)
