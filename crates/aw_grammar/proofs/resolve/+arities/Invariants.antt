use Rattle.std.proofs.Common.{◌≡◌, drop, map}
use Rattle.aw_grammar.specs.Written.{written_of}
use Rattle.aw_grammar.specs.Kinds.{all_have_arities}
use Rattle.aw_grammar.proofs.resolve.+arities.Given as goal

abbrev pub invariant-have_arities-loop-term : goal.invariant-have_arities-loop-term
invariant-have_arities-loop-term l = all_have_arities l.grammar.cons (map written_of (drop l.term-index l.term-items)) ≡ all_have_arities l.grammar.cons (map written_of l.terms)
