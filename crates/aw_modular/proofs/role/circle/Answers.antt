use Rattle.aw_grammar.specs.GrammarOf.{grammar_of}
use Rattle.aw_iograph.specs.Pairs.{Has}
use Rattle.aw_modular.specs.Roles.{Known}
use Rattle.aw_modular.proofs.Yeses.{fault_if_ok}
use Rattle.aw_modular.proofs.role.circle.Goals as goal

pub returns : goal.returns
returns c = let p = c.args.part.now in fault_if_ok (grammar_of p.grammar) (Has c.args.found.now)
    (Known (grammar_of p.grammar) p.role c.args.declared.now) c.least_fault.result c.requires c.least_fault.ensures
