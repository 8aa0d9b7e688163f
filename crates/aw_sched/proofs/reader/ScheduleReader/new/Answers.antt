use Rattle.std.proofs.Common.{rules}
use Rattle.aw_grammar.specs.GrammarOf.{grammar_of, words_of}
use Rattle.aw_sched.proofs.reader.ScheduleReader.new.Goals as goal

pub returns-clause-reading : goal.returns-clause-reading
returns-clause-reading c = record { made = c.requires; nodes = c.new-2.ensures (words_of c.args.g.now) (grammar_of c.args.g.now); last = tt; counted = search rules }
