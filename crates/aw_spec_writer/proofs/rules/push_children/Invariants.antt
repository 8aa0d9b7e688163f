use Rattle.std.proofs.Common.{◌≡◌, ◌++◌, drop, map}
use Rattle.aw_term.specs.Rules as P
use Rattle.aw_term.specs.WellFormed.{Each}
use Rattle.aw_grammar.specs.GrammarOf.{words_of}
use Rattle.aw_grammar.specs.GrammarView.{child_of}
use Rattle.aw_spec_writer.specs.LineTexts.{children_text}
use Rattle.aw_spec_writer.specs.SpecLines.{named_children}
use Rattle.aw_spec_writer.specs.Writable.{NumbersFit}
use Rattle.aw_spec_writer.proofs.PushingRules.{separated_children}
use Rattle.aw_spec_writer.proofs.rules.push_children.Given as goal

abbrev pub invariant-loop-child : goal.invariant-loop-child
invariant-loop-child l = record {
  text : l.text ++ separated_children l.separator (named_children (words_of l.g).cons (words_of l.g).sorts l.vars l.left (map (child_of l.g.sorts) (drop l.child-index l.children)))
      ≡ l.fn.text ++ children_text (named_children (words_of l.g).cons (words_of l.g).sorts l.vars l.results (map (child_of l.g.sorts) l.children));
  numbers : Each (λ (c : P.Child). Each NumbersFit c.args) (map (child_of l.g.sorts) (drop l.child-index l.children)) →
      Each (λ (c : P.Child). Each NumbersFit c.args) (map (child_of l.g.sorts) l.children);
}
