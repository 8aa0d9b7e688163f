use Rattle.aw_run.proofs.OneRoles.{told_alone}
use Rattle.aw_run.proofs.law.choices_are_told_undivided.Goals as goal

pub returns : goal.returns
returns c = told_alone
