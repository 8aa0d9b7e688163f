use Rattle.std.proofs.Common.{ap, ◌∙◌}
use Rattle.aw_plain.specs.Pieces.{pending}
use Rattle.aw_plain.proofs.PrintLemmas.{pending_push}
use Rattle.aw_plain.proofs.print.push_bytes.Goals as goal

pub returns : goal.returns
returns c = λ w. ap (pending w) c.in_ok-push.ensures.items ∙ pending_push w c.args.pieces.now.items _
