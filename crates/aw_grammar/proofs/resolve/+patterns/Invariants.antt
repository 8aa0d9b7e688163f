use Rattle.std.proofs.Common.{◌≡◌, ◌++◌, drop, map}
use Rattle.aw_term.specs.Views.{pattern_of}
use Rattle.aw_grammar.specs.Written.{written_of}
use Rattle.aw_grammar.specs.Resolved.{numbered}
use Rattle.aw_grammar.specs.Faultless.{all_faultless}
use Rattle.aw_grammar.specs.GrammarOf.{words_of}
use Rattle.aw_grammar.proofs.resolve.+patterns.Given as goal

abbrev pub invariant-to_patterns-loop-term : goal.invariant-to_patterns-loop-term
invariant-to_patterns-loop-term l = record {
  made : map pattern_of l.made ++ map (numbered (words_of l.grammar).cons l.variables.names) (map written_of (drop l.term-index l.term-items))
      ≡ map (numbered (words_of l.grammar).cons l.variables.names) (map written_of l.terms);
  faultless : all_faultless l.grammar.cons l.variables.names (map written_of (drop l.term-index l.term-items)) ≡ all_faultless l.grammar.cons l.variables.names (map written_of l.terms);
}
