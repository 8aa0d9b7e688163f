use Rattle.std.proofs.Common.{◌-◌, drop, map}
use Rattle.aw_grammar.specs.GrammarView.{rule_of}
use Rattle.aw_term.specs.WellFormed.{Each}
use Rattle.aw_law_nodes.specs.Sizes.{RuleSized}
use Rattle.aw_courier.proofs.sizes.see_rules.Given as goal

abbrev pub invariant-loop-rule : goal.invariant-loop-rule
invariant-loop-rule l = Each RuleSized (map (rule_of l.g.sorts) (drop l.number l.g.rules)) → Each RuleSized (map (rule_of l.g.sorts) l.g.rules)

abbrev pub decreases-loop-rule : goal.decreases-loop-rule
decreases-loop-rule l = 1024 - l.number
