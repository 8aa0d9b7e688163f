use Rattle.std.proofs.Common.{arith}
use Rattle.aw_disk.proofs.mem_pages.told.Goals as goal

pub returns : goal.returns
returns c = record { bounded = omega arith; are_bytes = λ i. omega (arith, c.type_inv.bytes i) }
