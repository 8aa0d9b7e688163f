use Rattle.std.proofs.Common.{Option, subst}
use Rattle.aw_grammar.specs.GrammarOf.{grammar_of}
use Rattle.aw_iograph.specs.Pairs.{Has}
use Rattle.aw_accept.specs.declared.refused.Fault.{Fault}
use Rattle.aw_accept.specs.Circular.{LeastFaultOver}
use Rattle.aw_accept.proofs.Faults.{fault_same}
use Rattle.aw_wait.specs.Waiting.{WaitingRelation}
use Rattle.aw_wait.proofs.accept.free_of_waiting.Goals as goal

pub returns-in-None-clause-free : goal.returns-in-None-clause-free
returns-in-None-clause-free c =
    let g = grammar_of c.args.g.now in
    subst (λ (found : Option Fault). LeastFaultOver g (WaitingRelation g) found) c.in-None.is
    (fault_same g (Has c.in_ok-waiting.waiting) (WaitingRelation g) c.in_ok-rule.field-0 c.in_ok-waiting.ensures.exact c.in_ok-rule.ensures)

pub returns-in-Some-clause-circle : goal.returns-in-Some-clause-circle
returns-in-Some-clause-circle c =
    let g = grammar_of c.args.g.now in
    subst (λ (found : Option Fault). LeastFaultOver g (WaitingRelation g) found) c.in-Some.is
    (fault_same g (Has c.in_ok-waiting.waiting) (WaitingRelation g) c.in_ok-rule.field-0 c.in_ok-waiting.ensures.exact c.in_ok-rule.ensures)
