use Rattle.std.proofs.Common.{refl}
use Rattle.aw_trial.specs.Draws.{drawn}
use Rattle.aw_trial.proofs.drawing.drawn.Goals as goal

pub returns-clause-drawn : goal.returns-clause-drawn
unfolding drawn
returns-clause-drawn c = refl
