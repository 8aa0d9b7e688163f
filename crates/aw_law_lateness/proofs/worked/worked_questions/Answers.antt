use Rattle.std.proofs.Common.{refl}
use Rattle.aw_law_lateness.proofs.worked.worked_questions.Goals as goal

pub returns-clause-open : goal.returns-clause-open
returns-clause-open c = (refl, refl, refl, refl, refl, refl)

pub returns-clause-fewer : goal.returns-clause-fewer
returns-clause-fewer c = (refl, refl, refl, refl)
