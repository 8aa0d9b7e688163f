use Rattle.std.proofs.Common.{◌≡◌, ◌++◌, map, drop}
use Rattle.aw_term.specs.WellFormed.{leaves_of}
use Rattle.aw_grammar.specs.Written.{written_of}
use Rattle.aw_grammar.specs.Resolved.{all_resolved}
use Rattle.aw_grammar.proofs.terms.+variables.Given as goal

abbrev pub invariant-push_all_variables-loop-term : goal.invariant-push_all_variables-loop-term
invariant-push_all_variables-loop-term l =
    l.names ++ leaves_of (all_resolved l.cons (map written_of (drop l.term-index l.term-items))) ≡ l.fn.names ++ leaves_of (all_resolved l.cons (map written_of l.terms))
