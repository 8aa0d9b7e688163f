use Rattle.aw_iograph.proofs.Deciding.{decided_closed, decided_none}
use Rattle.aw_iograph.proofs.tried.decided.Goals as goal

pub returns-clause-closed : goal.returns-clause-closed
returns-clause-closed c g pairs e = decided_closed g pairs e

pub returns-clause-no_circle : goal.returns-clause-no_circle
returns-clause-no_circle c g pairs e = decided_none g pairs e
