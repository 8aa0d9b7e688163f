use Rattle.aw_sched_writer.proofs.Lines.{written_schedule_is_read}
use Rattle.aw_sched_writer.proofs.law.written_schedule_is_read.Goals as goal

pub returns : goal.returns
returns c = written_schedule_is_read
