use Rattle.std.proofs.Common.{arith, ◌+◌}
use Rattle.std.proofs.lemmas.Slice.Eq.{slice_eq-Decides}
use Rattle.std.proofs.lemmas.Bool.Decides.{Decides-eqb}
use Rattle.aw_base.proofs.ReadFronts.{same_further}
use Rattle.aw_base.proofs.common.is_same_block.Goals as goal

pub returns : goal.returns
returns c r e = same_further c.args.a.now c.args.b.now c.args.at (c.args.at + 64) (omega arith) e ((slice_eq-Decides Decides-eqb _ _ _ c.eq.ensures).0 r)
