use Rattle.aw_grammar.specs.GrammarOf.{grammar_of}
use Rattle.aw_iograph.specs.Dependence.{IO}
use Rattle.aw_iograph.specs.Pairs.{Has}
use Rattle.aw_accept.proofs.Faults.{fault_same}
use Rattle.aw_accept.proofs.check.judged.Goals as goal

pub returns-clause-least : goal.returns-clause-least
returns-clause-least c =
    let g = grammar_of c.args.g.now in
    fault_same g (Has c.in_ok-io.io) (IO g) c.in_ok-fault.fault c.in_ok-io.ensures.exact c.in_ok-fault.ensures
