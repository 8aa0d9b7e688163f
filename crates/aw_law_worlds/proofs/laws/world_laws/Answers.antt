use Rattle.aw_law_worlds.proofs.WorldLaws.{invariant_law, knowledge_law, repeats_law, circle_law, stays_law, rule_law, start_law, homes_law}
use Rattle.aw_law_worlds.proofs.laws.world_laws.Goals as goal

pub returns-clause-invariant : goal.returns-clause-invariant
returns-clause-invariant c w g accepted = invariant_law w g accepted

pub returns-clause-knowledge : goal.returns-clause-knowledge
returns-clause-knowledge c w g accepted = knowledge_law w g accepted

pub returns-clause-circle : goal.returns-clause-circle
returns-clause-circle c w g accepted = circle_law w g accepted

pub returns-clause-stays : goal.returns-clause-stays
returns-clause-stays c w g accepted = stays_law w g accepted

pub returns-clause-rule_stays : goal.returns-clause-rule_stays
returns-clause-rule_stays c w g accepted = rule_law w g accepted

pub returns-clause-start_stays : goal.returns-clause-start_stays
returns-clause-start_stays c w g accepted = start_law w g accepted

pub returns-clause-repeats : goal.returns-clause-repeats
returns-clause-repeats c w g accepted = repeats_law w g accepted

pub returns-clause-homes : goal.returns-clause-homes
returns-clause-homes c w g accepted = homes_law w g accepted
