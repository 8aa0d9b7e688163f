use Rattle.std.proofs.Common.{◌≡◌, ◌+◌, ◌*◌, ap, ◌∙◌, arith}
use Rattle.aw_name.specs.Digest.{step_number, digest_and}
use Rattle.aw_name.proofs.digest.digest_with.Goals as goal

pub returns : goal.returns
returns c =
    let number : c.from.result * 256 + c.from-2.result ≡ step_number c.args.step = omega arith in
    c.digest_and.ensures ∙ ap (digest_and c.args.digest) number
