use Rattle.aw_grammar.specs.GrammarOf.{grammar_of}
use Rattle.aw_wait.proofs.Accepting.{waiting_if_ok}
use Rattle.aw_wait.proofs.accept.waiting_of.Goals as goal

pub returns-clause-exact : goal.returns-clause-exact
returns-clause-exact c = waiting_if_ok (grammar_of c.args.g.now) c.in_ok-seed.seed c.io_from.result c.in_ok-seed.ensures.exact c.io_from.ensures.exact
