use Rattle.std.proofs.Common.{List, Bool, subst, sym}
use Rattle.aw_grammar.specs.GrammarOf.{grammar_of}
use Rattle.aw_iograph.specs.Dependence.{Follows, passed}
use Rattle.aw_iograph.specs.Pairs.{Has, HasMark}
use Rattle.aw_iograph.proofs.Relations.{follows_least}
use Rattle.aw_iograph.proofs.settle.io_from.Goals as goal

pub returns-clause-held : goal.returns-clause-held
returns-clause-held c s i j has = c.in_ok-settle.ensures.widened.held s i j (subst (λ (ms : List Bool). HasMark ms s i j) (sym c.in_ok-io.ensures) has)

pub returns-clause-exact : goal.returns-clause-exact
returns-clause-exact c s i j = (
  λ has. subst (λ (ms : List Bool). Follows (grammar_of c.args.g.now) (HasMark ms) s i j) c.in_ok-io.ensures (c.in_ok-settle.ensures.widened.follows s i j has),
  λ follows. follows_least (grammar_of c.args.g.now) (Has c.args.seed.now) (Has c.settle.new.io) c.in_ok-settle.ensures.closed (returns-clause-held c) s i j follows,
)

pub returns-clause-least : goal.returns-clause-least
returns-clause-least c test held closed s i j has =
    follows_least (grammar_of c.args.g.now) (Has c.args.seed.now) (passed test) closed held s i j
    (subst (λ (ms : List Bool). Follows (grammar_of c.args.g.now) (HasMark ms) s i j) c.in_ok-io.ensures (c.in_ok-settle.ensures.widened.follows s i j has))
