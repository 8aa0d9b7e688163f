use Rattle.std.proofs.Common.{refl}
use Rattle.aw_world_waits.proofs.worked.worked_pairs.Goals as goal

pub returns : goal.returns
returns c = (refl, refl)
