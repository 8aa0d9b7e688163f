use Rattle.aw_grammar.specs.GrammarOf.{words_of}
use Rattle.aw_sched.proofs.KnownGrounds.{word_known}
use Rattle.aw_sched.proofs.ground.root_of_word.Goals as goal

pub returns : goal.returns
returns c = word_known (words_of c.args.g.now).cons c.args.name.now c.in_ok-con.con c.new.result c.in_ok-con.ensures c.new.ensures
