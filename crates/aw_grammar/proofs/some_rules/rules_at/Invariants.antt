use Rattle.std.proofs.Common.{◌≡◌, take}
use Rattle.aw_grammar.specs.SomeRules.{rules_at}
use Rattle.aw_grammar.proofs.some_rules.rules_at.Given as goal

abbrev pub invariant-loop-rule : goal.invariant-loop-rule
invariant-loop-rule l = l.kept ≡ rules_at l.sorts l.role (take l.rule-index l.rules)
