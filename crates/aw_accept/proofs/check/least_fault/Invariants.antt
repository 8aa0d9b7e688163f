use Rattle.aw_grammar.specs.GrammarOf.{grammar_of}
use Rattle.aw_iograph.specs.Pairs.{Has}
use Rattle.aw_accept.specs.Circular.{NoneBelow}
use Rattle.aw_accept.proofs.check.least_fault.Given as goal

abbrev pub invariant-loop-rule : goal.invariant-loop-rule
invariant-loop-rule l = NoneBelow (grammar_of l.g) (Has l.io) l.rule
