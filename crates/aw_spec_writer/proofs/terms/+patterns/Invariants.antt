use Rattle.std.proofs.Common.{◌≡◌, ◌++◌, drop, map}
use Rattle.aw_term.specs.Views.{pattern_of}
use Rattle.aw_term.specs.WellFormed.{Each}
use Rattle.aw_grammar.specs.Written.{side_by_side}
use Rattle.aw_grammar.specs.GrammarOf.{words_of}
use Rattle.aw_spec_writer.specs.LineTexts.{terms_text}
use Rattle.aw_spec_writer.specs.SpecLines.{named}
use Rattle.aw_spec_writer.specs.Writable.{NumbersFit}
use Rattle.aw_spec_writer.proofs.Pushing.{separated}
use Rattle.aw_spec_writer.proofs.terms.+patterns.Given as goal

abbrev pub invariant-push_patterns-loop-pattern : goal.invariant-push_patterns-loop-pattern
invariant-push_patterns-loop-pattern l = record {
  text : l.text ++ separated l.separator (side_by_side (map (named (words_of l.g).cons l.vars) (map pattern_of (drop l.pattern-index l.pattern-items))))
      ≡ l.fn.text ++ terms_text (map (named (words_of l.g).cons l.vars) (map pattern_of l.patterns));
  numbers : Each NumbersFit (map pattern_of (drop l.pattern-index l.pattern-items)) → Each NumbersFit (map pattern_of l.patterns);
}
