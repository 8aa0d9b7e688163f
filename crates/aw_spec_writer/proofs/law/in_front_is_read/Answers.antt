use Rattle.aw_spec_writer.proofs.Behind.{in_front_is_read}
use Rattle.aw_spec_writer.proofs.law.in_front_is_read.Goals as goal

pub returns : goal.returns
returns c = in_front_is_read
