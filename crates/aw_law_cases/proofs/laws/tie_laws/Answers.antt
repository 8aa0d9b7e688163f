use Rattle.aw_law_cases.proofs.Ties.{only_forged_ones_tie, only_new_ones_tie}
use Rattle.aw_law_cases.proofs.laws.tie_laws.Goals as goal

pub returns-clause-new : goal.returns-clause-new
returns-clause-new c = λ g. only_new_ones_tie g

pub returns-clause-forged : goal.returns-clause-forged
returns-clause-forged c = λ g. only_forged_ones_tie g
