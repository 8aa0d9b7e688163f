use Rattle.std.proofs.Common.{◌≡◌, ◌++◌, drop, map}
use Rattle.aw_term.specs.Views.{term_of}
use Rattle.aw_grammar.specs.Written.{written_of}
use Rattle.aw_grammar.specs.Resolved.{numbered}
use Rattle.aw_grammar.specs.Faultless.{all_faultless}
use Rattle.aw_grammar.specs.GrammarOf.{words_of}
use Rattle.aw_grammar.proofs.resolve.+terms.Given as goal

abbrev pub invariant-to_terms-loop-term : goal.invariant-to_terms-loop-term
invariant-to_terms-loop-term l = record {
  made : map term_of l.made ++ map (numbered (words_of l.grammar).cons l.variables.names) (map written_of (drop l.term-index l.term-items))
      ≡ map (numbered (words_of l.grammar).cons l.variables.names) (map written_of l.terms);
  faultless : all_faultless l.grammar.cons l.variables.names (map written_of (drop l.term-index l.term-items)) ≡ all_faultless l.grammar.cons l.variables.names (map written_of l.terms);
}
