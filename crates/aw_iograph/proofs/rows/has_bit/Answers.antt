use Rattle.aw_iograph.proofs.Joining.{bit_test}
use Rattle.aw_iograph.proofs.rows.has_bit.Goals as goal

pub returns : goal.returns
returns c = bit_test c.args.row c.args.bit c.requires
