use Rattle.std.proofs.Common.{◌≡◌, ◌++◌, drop, map}
use Rattle.std.specs.Prelude.{All}
use Rattle.aw_grammar.specs.GrammarOf.{grammar_of}
use Rattle.aw_standing.specs.Records.{mark_rule, rules_of}
use Rattle.aw_standing.specs.Tested.{IsUntested}
use Rattle.aw_standing.proofs.preparing.marks_for.Given as goal

abbrev pub invariant-loop-number : goal.invariant-loop-number
invariant-loop-number l = record {
  rules : map mark_rule l.marks.items ++ rules_of l.sort l.number (drop l.number (grammar_of l.grammar).rules) ≡ rules_of l.sort 0 (grammar_of l.grammar).rules;
  untested : All IsUntested l.marks.items;
}
