use Rattle.aw_grammar.specs.GrammarOf.{grammar_of}
use Rattle.aw_iograph.specs.Pairs.{Has}
use Rattle.aw_iograph.proofs.Relations.{io_least, follows_none}
use Rattle.aw_iograph.proofs.settle.io_of.Goals as goal

pub returns-clause-exact : goal.returns-clause-exact
returns-clause-exact c s i j = (
  λ has. follows_none (grammar_of c.args.g.now) (Has c.in_ok-io.io) c.in_ok-io.ensures.empty s i j (c.in_ok-settle.ensures.widened.follows s i j has),
  λ io. io_least (grammar_of c.args.g.now) (Has c.settle.new.io) c.in_ok-settle.ensures.closed s i j io,
)
