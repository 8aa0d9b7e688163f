use Rattle.std.proofs.Common.{refl}
use Rattle.aw_law_journals.proofs.worked.worked_clinic.Goals as goal

pub returns-clause-joins : goal.returns-clause-joins
returns-clause-joins c = (refl, refl)

pub returns-clause-receiver : goal.returns-clause-receiver
returns-clause-receiver c = (refl, refl)

pub returns-clause-set_back : goal.returns-clause-set_back
returns-clause-set_back c = (refl, refl)

pub returns-clause-stripped : goal.returns-clause-stripped
returns-clause-stripped c = (refl, refl)

pub returns-clause-twice : goal.returns-clause-twice
returns-clause-twice c = (refl, refl)

pub returns-clause-changed : goal.returns-clause-changed
returns-clause-changed c = (refl, refl)
