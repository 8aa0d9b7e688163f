use Rattle.aw_sched_writer.proofs.Lines.{written_events_are_read}
use Rattle.aw_sched_writer.proofs.law.written_events_are_read.Goals as goal

pub returns : goal.returns
returns c = written_events_are_read
