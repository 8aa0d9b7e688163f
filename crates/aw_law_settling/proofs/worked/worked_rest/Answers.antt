use Rattle.std.proofs.Common.{refl}
use Rattle.aw_law_settling.proofs.worked.worked_rest.Goals as goal

pub returns-clause-still : goal.returns-clause-still
returns-clause-still c = (refl, refl)

pub returns-clause-too_early : goal.returns-clause-too_early
returns-clause-too_early c = (refl, refl)

pub returns-clause-in_turn : goal.returns-clause-in_turn
returns-clause-in_turn c = (refl, refl)
