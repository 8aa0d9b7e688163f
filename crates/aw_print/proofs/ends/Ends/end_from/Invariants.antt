use Rattle.aw_print.proofs.EndsLemmas.{Following}
use Rattle.aw_print.proofs.ends.Ends.end_from.Given as goal

-- so much of the chase was followed
abbrev pub invariant-loop-i : goal.invariant-loop-i
invariant-loop-i g l = Following (g.F.Facts.map l.f) (g.F.Facts.names l.f) l.slot l.at
