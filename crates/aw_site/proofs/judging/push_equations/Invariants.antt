use Rattle.std.proofs.Common.{◌≡◌, ◌++◌, take}
use Rattle.aw_site.proofs.judging.push_equations.Given as goal

abbrev pub invariant-loop-e : goal.invariant-loop-e
invariant-loop-e l = l.es.items ≡ l.fn.es.items ++ take l.e-index l.more
