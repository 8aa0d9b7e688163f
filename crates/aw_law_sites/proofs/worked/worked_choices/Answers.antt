use Rattle.std.proofs.Common.{refl}
use Rattle.aw_law_sites.proofs.Accepted.{own_result_accepted}
use Rattle.aw_law_sites.proofs.worked.worked_choices.Goals as goal

pub returns-clause-clinic : goal.returns-clause-clinic
returns-clause-clinic c = refl

pub returns-clause-clinic_values : goal.returns-clause-clinic_values
returns-clause-clinic_values c = refl

pub returns-clause-waiting : goal.returns-clause-waiting
returns-clause-waiting c = refl

pub returns-clause-waiting_no_more : goal.returns-clause-waiting_no_more
returns-clause-waiting_no_more c = refl

pub returns-clause-own_result : goal.returns-clause-own_result
returns-clause-own_result c = refl

pub returns-clause-own_result_values : goal.returns-clause-own_result_values
returns-clause-own_result_values c = refl

pub returns-clause-own_result_accepted : goal.returns-clause-own_result_accepted
returns-clause-own_result_accepted c = own_result_accepted
