use Rattle.std.proofs.Common.{refl}
use Rattle.aw_law_cases.proofs.worked.worked_ties.Goals as goal

pub returns-clause-refused : goal.returns-clause-refused
returns-clause-refused c = (refl, refl)

pub returns-clause-new : goal.returns-clause-new
returns-clause-new c = (refl, refl, refl)
