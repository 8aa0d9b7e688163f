use Rattle.std.proofs.Common.{◌≡◌, drop, map}
use Rattle.aw_grammar.specs.Written.{written_of}
use Rattle.aw_grammar.specs.Kinds.{all_known}
use Rattle.aw_grammar.proofs.terms.+known.Given as goal

abbrev pub invariant-are_known-loop-term : goal.invariant-are_known-loop-term
invariant-are_known-loop-term l = all_known l.cons (map written_of (drop l.term-index l.term-items)) ≡ all_known l.cons (map written_of l.terms)
