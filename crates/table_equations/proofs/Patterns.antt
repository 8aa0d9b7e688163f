-- The patterns of a rule keep the limits.
use Rattle.std.proofs.Common.{◌≤◌, length, map, ap, arith}
use Rattle.std.proofs.Math.Logic.{∥∥₁_elim}
use Rattle.std.specs.Coded.{le_prop}
use Rattle.aw_term.specs.Trees.{join}
use Rattle.aw_term.specs.Views.{pattern_of}
use Rattle.aw_term.specs.WellFormed.{all_leaves, all_nesting, RuleFits}
use Rattle.aw_term.proofs.Joined.{shallow_join, leaves_join}
use Rattle.aw_grammar.specs.declared.grammar.Grammar.{Grammar}
use Rattle.aw_grammar.specs.declared.rule.Rule.{Rule}
use Rattle.aw_grammar.specs.GrammarView.{rule_of}
use Rattle.aw_grammar.specs.GrammarOf.{grammar_of}

module _ (g : Grammar) (rule : Rule) (fits : ∥ RuleFits (grammar_of g) (rule_of g.sorts rule) ∥₁) where
  pub patterns_shallow : all_nesting (join (map pattern_of rule.patterns)) ≤ 32
  patterns_shallow = ∥∥₁_elim fits le_prop (λ w. shallow_join (grammar_of g).arities _ w.patterns)

  pub patterns_narrow : length (all_leaves (join (map pattern_of rule.patterns))) ≤ 64
  patterns_narrow = ∥∥₁_elim fits le_prop (λ w. omega (arith, w.few_variables, ap length (leaves_join (map pattern_of rule.patterns))))
