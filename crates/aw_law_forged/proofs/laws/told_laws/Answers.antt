use Rattle.aw_law_forged.proofs.Truth.{children_are_called, equations_are_brought, truth_agrees}
use Rattle.aw_law_forged.proofs.laws.told_laws.Goals as goal

pub returns-clause-brought : goal.returns-clause-brought
returns-clause-brought c = λ g. equations_are_brought g

pub returns-clause-called : goal.returns-clause-called
returns-clause-called c = λ g. children_are_called g

pub returns-clause-agrees : goal.returns-clause-agrees
returns-clause-agrees c = λ g. truth_agrees g
