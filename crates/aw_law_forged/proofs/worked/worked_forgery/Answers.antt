use Rattle.std.proofs.Common.{refl}
use Rattle.aw_law_forged.proofs.worked.worked_forgery.Goals as goal

pub returns-clause-deceived : goal.returns-clause-deceived
returns-clause-deceived c = (refl, refl)

pub returns-clause-own : goal.returns-clause-own
returns-clause-own c = (refl, refl)

pub returns-clause-sent : goal.returns-clause-sent
returns-clause-sent c = refl
