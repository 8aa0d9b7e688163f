use Rattle.aw_grammar.specs.GrammarView.{rule_of}
use Rattle.aw_grammar.specs.GrammarOf.{grammar_of}
use Rattle.aw_iograph.specs.Pairs.{HasSort}
use Rattle.aw_wait.specs.Seeding.{Adds}
use Rattle.aw_wait.proofs.Seeds.{ByFirst}
use Rattle.aw_wait.proofs.seed.add_rule.Given as goal

abbrev pub invariant-loop-at : goal.invariant-loop-at
invariant-loop-at l = record {
  sorts : HasSort l.seed l.rule.sort;
  added : Adds l.initial.seed l.seed (ByFirst (grammar_of l.g) (rule_of l.g.sorts l.rule) l.at);
}
