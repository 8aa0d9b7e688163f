use Rattle.std.proofs.Common.{refl}
use Rattle.aw_grammar.specs.GrammarOf.{grammar_of}
use Rattle.aw_grammar.specs.GrammarView.{sort_of}
use Rattle.aw_node.proofs.Homes.{home-seen, no-start}
use Rattle.aw_node.proofs.handling.role_of_start.Goals as goal

pub returns-in-Some : goal.returns-in-Some
returns-in-Some c case = home-seen sort_of c.args.g.now.sorts (grammar_of c.args.g.now) c.args.sort case c.in-Some.declared.now refl c.in-Some.ensures.value c.requires

pub returns-in-None : goal.returns-in-None
returns-in-None c case = absurd (no-start sort_of c.args.g.now.sorts (grammar_of c.args.g.now).sorts c.args.sort refl c.in-None.ensures.value c.requires)
