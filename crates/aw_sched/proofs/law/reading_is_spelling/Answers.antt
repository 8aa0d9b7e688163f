use Rattle.aw_sched.proofs.ReadLines.{line_reads}
use Rattle.aw_sched.proofs.SpelledLines.{line_spelled}
use Rattle.aw_sched.proofs.law.reading_is_spelling.Goals as goal

pub returns-clause-reads : goal.returns-clause-reads
returns-clause-reads c = line_reads

pub returns-clause-spelled : goal.returns-clause-spelled
returns-clause-spelled c = line_spelled
