use Rattle.aw_world_waits.proofs.Steady.{guard_all-waits}
use Rattle.aw_world_waits.proofs.SiteRuns.{waits_there_too}
use Rattle.aw_world_waits.proofs.waits.site_laws.Goals as goal

pub returns-clause-stays : goal.returns-clause-stays
returns-clause-stays c k l sub ps rs r gone e = guard_all-waits k l sub r gone 1 ps rs e

pub returns-clause-there_too : goal.returns-clause-there_too
returns-clause-there_too c w g accepted = waits_there_too w g accepted
