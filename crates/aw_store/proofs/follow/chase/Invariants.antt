use Rattle.aw_store.proofs.ChaseLemmas.{Chasing}
use Rattle.aw_store.proofs.follow.chase.Given as goal

abbrev pub invariant-loop-i : goal.invariant-loop-i
invariant-loop-i g l = Chasing (g.F.Facts.names l.f) (g.F.Facts.map l.f) l.slot l.i l.at
