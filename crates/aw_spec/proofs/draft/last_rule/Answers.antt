use Rattle.std.proofs.Common.{◌-◌}
use Rattle.std.proofs.Math.Logic.{∥∥₁_elim}
use Rattle.std.specs.Coded.{le_prop}
use Rattle.aw_term.specs.WellFormed.{RuleFits}
use Rattle.aw_grammar.specs.GrammarOf.{grammar_of}
use Rattle.aw_grammar.specs.GrammarView.{rule_of}
use Rattle.aw_grammar.proofs.Fits.{each_map_at}
use Rattle.aw_spec.proofs.LastRule.{few_children}
use Rattle.aw_spec.proofs.draft.last_rule.Goals as goal

pub returns-clause-few : goal.returns-clause-few
returns-clause-few c =
    let g = c.args.grammar.now in
    let rule = c.at.result.now in
    ∥∥₁_elim g.well_formed le_prop (λ w. few_children g.sorts rule (each_map_at (rule_of g.sorts) (RuleFits (grammar_of g)) g.rules (c.len.result - 1) rule w.rules c.at.ensures).few_children)
