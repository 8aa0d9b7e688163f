use Rattle.aw_accept.proofs.GuardAnswers.{waits_for_missing, tells_no_circle}
use Rattle.aw_accept.proofs.laws.answer_laws.Goals as goal

pub returns-clause-waits : goal.returns-clause-waits
returns-clause-waits c g = waits_for_missing g

pub returns-clause-no_circle : goal.returns-clause-no_circle
returns-clause-no_circle c g = tells_no_circle g
