use Rattle.std.proofs.Common.{refl, arith}
use Rattle.aw_law_system.proofs.worked.worked_crash.Goals as goal

pub returns-clause-may_go : goal.returns-clause-may_go
returns-clause-may_go c = (omega arith, omega arith, omega arith)

pub returns-clause-stays : goal.returns-clause-stays
returns-clause-stays c h = let low = h.1 in absurd (omega (arith, low))

pub returns-clause-nobody : goal.returns-clause-nobody
returns-clause-nobody c = (refl, refl)
