use Rattle.std.proofs.Common.{◌*◌, ◌^◌}
use Rattle.std.proofs.Math.Nat.{mod-add-mod}
use Rattle.aw_name.specs.Digest.{digest_and}
use Rattle.aw_name.proofs.digest.digest_and.Goals as goal

pub returns : goal.returns
unfolding digest_and
returns c = mod-add-mod (c.args.digest * 11400714819323198485) (2 ^ 64) c.args.number
