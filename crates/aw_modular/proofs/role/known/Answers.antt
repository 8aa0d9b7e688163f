use Rattle.aw_grammar.specs.GrammarOf.{grammar_of}
use Rattle.aw_modular.proofs.Yeses.{known_if_ok}
use Rattle.aw_modular.proofs.role.known.Goals as goal

pub returns-clause-exact : goal.returns-clause-exact
returns-clause-exact c =
    let p = c.args.part.now in known_if_ok (grammar_of p.grammar) p.role c.args.declared.now c.in_ok-others.others c.io_from.result p.own c.in_ok-others.ensures.exact c.io_from.ensures.exact
