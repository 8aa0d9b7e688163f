use Rattle.std.proofs.Common.{◌*◌, ◌^◌}
use Rattle.std.proofs.Math.Nat.{mod-add-mod}
use Rattle.aw_trial.specs.Draws.{following}
use Rattle.aw_trial.proofs.drawing.following.Goals as goal

pub returns : goal.returns
unfolding following
returns c = mod-add-mod (c.args.seed * 6364136223846793005) (2 ^ 64) 1442695040888963407
