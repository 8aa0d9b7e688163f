use Rattle.aw_law_sites.proofs.Unfolding.{one_value, computed, reached}
use Rattle.aw_law_sites.proofs.laws.value_laws.Goals as goal

pub returns-clause-one : goal.returns-clause-one
returns-clause-one c k r t u d e = one_value k k (λ s b f. f) (λ s f. f) d u e

pub returns-clause-computed : goal.returns-clause-computed
returns-clause-computed c k r n t e = computed k n r t e

pub returns-clause-reached : goal.returns-clause-reached
returns-clause-reached c k r t d = reached k d
