use Rattle.std.proofs.Common.{◌≡◌, drop}
use Rattle.aw_grammar.specs.GrammarOf.{grammar_of}
use Rattle.aw_base.specs.NodeNames.{first_misfit}
use Rattle.aw_base.proofs.read_node.first_misfit.Given as goal

abbrev pub invariant-loop-at : goal.invariant-loop-at
invariant-loop-at l = first_misfit (grammar_of l.g) l.at l.sort (drop l.at l.steps) ≡ first_misfit (grammar_of l.g) 0 l.fn.start l.fn.steps
