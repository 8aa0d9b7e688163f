use Rattle.aw_check_text.proofs.OneApart.{one-roles, one-waiting}
use Rattle.aw_check_text.proofs.law.tellings_are_one.Goals as goal

pub returns-clause-roles : goal.returns-clause-roles
returns-clause-roles c = one-roles

pub returns-clause-waiting : goal.returns-clause-waiting
returns-clause-waiting c = one-waiting
