use Rattle.aw_spec_writer.proofs.Formed.{law}
use Rattle.aw_spec_writer.proofs.law.written_is_read.Goals as goal

pub returns : goal.returns
returns c = law
