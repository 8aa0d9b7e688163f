use Rattle.std.proofs.Common.{arith}
use Rattle.aw_courier.proofs.SizeLemmas.{text_sized}
use Rattle.aw_courier.proofs.sizes.see_bytes.Goals as goal

pub returns : goal.returns
returns c = text_sized c.args.bytes.now (λ i. omega (arith, c.type_inv.bytes i))
