use Rattle.aw_law_learning.proofs.Learning.{ask_their_own, learn_their_own}
use Rattle.aw_law_learning.proofs.Working.{offices_work_by_call}
use Rattle.aw_law_learning.proofs.laws.learning_laws.Goals as goal

pub returns-clause-learns : goal.returns-clause-learns
returns-clause-learns c = λ words g a. learn_their_own g (c.world_laws.ensures.invariant words g a) (c.world_laws.ensures.homes words g a)

pub returns-clause-asks : goal.returns-clause-asks
returns-clause-asks c = λ words g a. ask_their_own g (c.world_laws.ensures.invariant words g a) (c.world_laws.ensures.homes words g a)

pub returns-clause-works : goal.returns-clause-works
returns-clause-works c = offices_work_by_call
