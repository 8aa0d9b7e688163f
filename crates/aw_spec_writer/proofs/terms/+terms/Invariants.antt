use Rattle.std.proofs.Common.{◌≡◌, ◌++◌, drop, map}
use Rattle.aw_term.specs.Views.{term_of}
use Rattle.aw_term.specs.WellFormed.{Each}
use Rattle.aw_grammar.specs.Written.{side_by_side}
use Rattle.aw_grammar.specs.GrammarOf.{words_of}
use Rattle.aw_spec_writer.specs.LineTexts.{terms_text}
use Rattle.aw_spec_writer.specs.SpecLines.{named}
use Rattle.aw_spec_writer.specs.Writable.{NumbersFit}
use Rattle.aw_spec_writer.proofs.Pushing.{separated}
use Rattle.aw_spec_writer.proofs.terms.+terms.Given as goal

abbrev pub invariant-push_terms-loop-term : goal.invariant-push_terms-loop-term
invariant-push_terms-loop-term l = record {
  text : l.text ++ separated l.separator (side_by_side (map (named (words_of l.g).cons l.vars) (map term_of (drop l.term-index l.term-items))))
      ≡ l.fn.text ++ terms_text (map (named (words_of l.g).cons l.vars) (map term_of l.terms));
  numbers : Each NumbersFit (map term_of (drop l.term-index l.term-items)) → Each NumbersFit (map term_of l.terms);
}
