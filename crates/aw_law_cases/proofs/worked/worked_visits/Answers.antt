use Rattle.std.proofs.Common.{refl}
use Rattle.aw_law_cases.proofs.worked.worked_visits.Goals as goal

pub returns-clause-alone : goal.returns-clause-alone
returns-clause-alone c = refl

pub returns-clause-mixed : goal.returns-clause-mixed
returns-clause-mixed c = (refl, refl)
