use Rattle.aw_law_worlds.proofs.Worklists.{worklists_law}
use Rattle.aw_law_worlds.proofs.WorldLaws.{quiet_law, answers_law, one_role_law, headline, artifacts_law, values_law, printed_law, bound_law, settle_law}
use Rattle.aw_law_worlds.proofs.laws.merge_laws.Goals as goal

pub returns-clause-quiet : goal.returns-clause-quiet
returns-clause-quiet c w g accepted = quiet_law w g accepted

pub returns-clause-headline : goal.returns-clause-headline
returns-clause-headline c w g accepted = headline w g accepted

pub returns-clause-artifacts : goal.returns-clause-artifacts
returns-clause-artifacts c w g accepted = artifacts_law w g accepted

pub returns-clause-bound : goal.returns-clause-bound
returns-clause-bound c w g accepted = bound_law w g accepted

pub returns-clause-settles : goal.returns-clause-settles
returns-clause-settles c g = settle_law g

pub returns-clause-values : goal.returns-clause-values
returns-clause-values c w g accepted = values_law w g accepted

pub returns-clause-printed : goal.returns-clause-printed
returns-clause-printed c w g accepted = printed_law w g accepted

pub returns-clause-answers : goal.returns-clause-answers
returns-clause-answers c w g accepted = answers_law w g accepted

pub returns-clause-one_role : goal.returns-clause-one_role
returns-clause-one_role c w g accepted = one_role_law w g accepted

pub returns-clause-worklists : goal.returns-clause-worklists
returns-clause-worklists c w g accepted = worklists_law w g accepted
