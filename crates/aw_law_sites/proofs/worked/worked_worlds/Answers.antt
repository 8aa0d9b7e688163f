use Rattle.std.proofs.Common.{refl}
use Rattle.std.specs.Fmt.{digits}
use Rattle.aw_law_sites.proofs.worked.worked_worlds.Goals as goal

pub returns-clause-clinic : goal.returns-clause-clinic
unfolding digits
returns-clause-clinic c = refl

pub returns-clause-clinic_loads : goal.returns-clause-clinic_loads
unfolding digits
returns-clause-clinic_loads c = refl

pub returns-clause-ask_before_call : goal.returns-clause-ask_before_call
unfolding digits
returns-clause-ask_before_call c = refl

pub returns-clause-all_again : goal.returns-clause-all_again
unfolding digits
returns-clause-all_again c = refl

pub returns-clause-refused_choices : goal.returns-clause-refused_choices
unfolding digits
returns-clause-refused_choices c = refl

pub returns-clause-value_late : goal.returns-clause-value_late
unfolding digits
returns-clause-value_late c = refl

pub returns-clause-waits_at_lab : goal.returns-clause-waits_at_lab
unfolding digits
returns-clause-waits_at_lab c = refl

pub returns-clause-forged_at_lab : goal.returns-clause-forged_at_lab
unfolding digits
returns-clause-forged_at_lab c = refl

pub returns-clause-load_comes_again : goal.returns-clause-load_comes_again
unfolding digits
returns-clause-load_comes_again c = refl

pub returns-clause-asked_at_clinic : goal.returns-clause-asked_at_clinic
unfolding digits
returns-clause-asked_at_clinic c = refl
