use Rattle.std.proofs.Common.{◌≡◌, ◌++◌, ◌-◌, drop, map}
use Rattle.aw_term.specs.WellFormed.{Each}
use Rattle.aw_grammar.specs.Declarations.{Entry}
use Rattle.aw_grammar.specs.GrammarOf.{words_of, entry}
use Rattle.aw_spec_writer.specs.LineTexts.{text_of_lines}
use Rattle.aw_spec_writer.specs.Writable.{SmallNumbers}
use Rattle.aw_spec_writer.proofs.PushingRules.{lines_of_rules}
use Rattle.aw_spec_writer.proofs.rules.push_rules.Given as goal

abbrev pub invariant-loop-rule : goal.invariant-loop-rule
invariant-loop-rule l = record {
  text : l.text ++ text_of_lines (lines_of_rules (words_of l.g).cons (words_of l.g).sorts l.g.sorts (drop l.number l.g.rules)) ≡ l.fn.text ++
      text_of_lines (lines_of_rules (words_of l.g).cons (words_of l.g).sorts l.g.sorts l.g.rules);
  numbers : Each (λ (e : Entry). SmallNumbers e.rule) (map (entry l.g.sorts) (drop l.number l.g.rules)) → Each (λ (e : Entry). SmallNumbers e.rule) (map (entry l.g.sorts) l.g.rules);
}

abbrev pub decreases-loop-rule : goal.decreases-loop-rule
decreases-loop-rule l = 1024 - l.number
