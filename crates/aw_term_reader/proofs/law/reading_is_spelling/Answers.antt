use Rattle.aw_term_reader.proofs.ReadsSpelled.{reads_spelled}
use Rattle.aw_term_reader.proofs.SpelledIfRead.{spelled_if_read}
use Rattle.aw_term_reader.proofs.law.reading_is_spelling.Goals as goal

pub returns-clause-reads : goal.returns-clause-reads
returns-clause-reads c = reads_spelled

pub returns-clause-spelled : goal.returns-clause-spelled
returns-clause-spelled c = spelled_if_read
