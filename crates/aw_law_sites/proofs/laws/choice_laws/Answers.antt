use Rattle.aw_law_sites.proofs.Agreement.{flat_law, steps_law, answers_law, acyclic_law, order_law}
use Rattle.aw_law_sites.proofs.laws.choice_laws.Goals as goal

pub returns-clause-flat : goal.returns-clause-flat
returns-clause-flat c w g accepted = flat_law w g accepted

pub returns-clause-answers : goal.returns-clause-answers
returns-clause-answers c w g accepted = answers_law w g accepted

pub returns-clause-order : goal.returns-clause-order
returns-clause-order c w g accepted = order_law w g accepted

pub returns-clause-acyclic : goal.returns-clause-acyclic
returns-clause-acyclic c w g accepted = acyclic_law w g accepted

pub returns-clause-steps : goal.returns-clause-steps
returns-clause-steps c w g accepted = steps_law w g accepted
