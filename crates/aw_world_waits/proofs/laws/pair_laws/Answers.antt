use Rattle.aw_world_waits.proofs.Standing.{pairs_stand, no_circle_told, some_told_free}
use Rattle.aw_world_waits.proofs.laws.pair_laws.Goals as goal

pub returns-clause-stand : goal.returns-clause-stand
returns-clause-stand c words g accepted = pairs_stand words g accepted

pub returns-clause-no_circle : goal.returns-clause-no_circle
returns-clause-no_circle c words g accepted = no_circle_told words g accepted

pub returns-clause-some_free : goal.returns-clause-some_free
returns-clause-some_free c words g accepted = some_told_free words g accepted
