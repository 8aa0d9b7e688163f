use Rattle.aw_iograph.proofs.Relations.{io_closed}
use Rattle.aw_iograph.proofs.laws.relation_laws.Goals as goal

pub returns-clause-closed : goal.returns-clause-closed
returns-clause-closed c g = io_closed g
