use Rattle.std.proofs.Common.{refl}
use Rattle.aw_law_forged.proofs.worked.worked_truth.Goals as goal

pub returns-clause-agrees : goal.returns-clause-agrees
returns-clause-agrees c = (refl, refl, refl)

pub returns-clause-refuses : goal.returns-clause-refuses
returns-clause-refuses c = (refl, refl)

pub returns-clause-loads : goal.returns-clause-loads
returns-clause-loads c = (refl, refl)
