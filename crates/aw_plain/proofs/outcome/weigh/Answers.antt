use Rattle.std.proofs.Common.{◌∙◌, sym, ap, None, map, slice_get}
use Rattle.std.proofs.lemmas.Result.{IfOk-weaker}
use Rattle.std.proofs.lemmas.List.{length-map}
use Rattle.std.proofs.Math.Logic.{∥∥₁_elim}
use Rattle.std.proofs.Math.Nat.{ℕ_set}
use Rattle.aw_term.specs.Views.{ground_of}
use Rattle.aw_term.specs.WellFormed.{takes_of}
use Rattle.aw_grammar.specs.GrammarOf.{grammar_of}
use Rattle.aw_plain.specs.declared.outcome.Outcome.{Outcome}
use Rattle.aw_plain_rows.specs.TreeView.{value_of}
use Rattle.aw_plain_rows.specs.RowView.{plain_row, config_of}
use Rattle.aw_plain.specs.Filled.{IsFilled}
use Rattle.aw_grammar.proofs.RuleSizes.{patterns_shallow, patterns_few, patterns_taken}
use Rattle.aw_plain.proofs.FitLemmas.{patterns_narrow}
use Rattle.aw_plain.proofs.OutcomeLemmas.{found_row, found_rule, no_rule, at_open, takable_here, found_each}
use Rattle.aw_plain.proofs.outcome.weigh.Goals as goal

pub weigh_rule-requires-clause-narrow : goal.weigh_rule-requires-clause-narrow
weigh_rule-requires-clause-narrow c = patterns_narrow c.args.grammar.now c.args.number _ (found_rule c.args.grammar.now.rules c.args.number
    c.rule.result c.in-Some-rule.rule c.rule.ensures.value c.in-Some-rule.is)

pub weigh_rule-requires-clause-shallow : goal.weigh_rule-requires-clause-shallow
weigh_rule-requires-clause-shallow c = patterns_shallow c.args.grammar.now c.args.number _ (found_rule c.args.grammar.now.rules c.args.number
    c.rule.result c.in-Some-rule.rule c.rule.ensures.value c.in-Some-rule.is)

pub weigh_rule-requires-clause-few : goal.weigh_rule-requires-clause-few
weigh_rule-requires-clause-few c = patterns_few c.args.grammar.now c.args.number _ (found_rule c.args.grammar.now.rules c.args.number c.rule.result
    c.in-Some-rule.rule c.rule.ensures.value c.in-Some-rule.is)

pub weigh_rule-requires-clause-same : goal.weigh_rule-requires-clause-same
weigh_rule-requires-clause-same c = λ e.
    let g = c.args.grammar.now in
    let row = c.in-Some.row in
    let found = found_row c.args.node.now (config_of c.args.rows.now) c.find_row.result row c.find_row.ensures c.in-Some.is in
    patterns_taken g c.args.number _ (found_rule c.args.grammar.now.rules c.args.number c.rule.result c.in-Some-rule.rule c.rule.ensures.value c.in-Some-rule.is)
    ∙ ap (λ s. takes_of (slice_get (grammar_of g).sorts s)) e
    ∙ sym (∥∥₁_elim c.requires.filled (ℕ_set _ _) (λ w. found_each (IsFilled (grammar_of g)) c.args.node.now (config_of c.args.rows.now) (plain_row row.now) found w))
    ∙ length-map row.now.inherited value_of

pub returns-in-Some-rule-clause-value : goal.returns-in-Some-rule-clause-value
returns-in-Some-rule-clause-value c =
    let g = c.args.grammar.now in
    let row = c.in-Some.row in
    let found = found_row c.args.node.now (config_of c.args.rows.now) c.find_row.result row c.find_row.ensures c.in-Some.is in
    let here = found_rule c.args.grammar.now.rules c.args.number c.rule.result c.in-Some-rule.rule c.rule.ensures.value c.in-Some-rule.is in
    IfOk-weaker c.weigh_rule.result _ _ (λ (o : Outcome) w. w g.sorts ∙ at_open g c.args.number _ c.args.node.now (map ground_of c.args.args.now)
    row.now _ here c.in_default.is found) c.weigh_rule.ensures.value

pub returns-in-Some-rule-clause-takable : goal.returns-in-Some-rule-clause-takable
returns-in-Some-rule-clause-takable c =
    let g = c.args.grammar.now in
    let here = found_rule c.args.grammar.now.rules c.args.number c.rule.result c.in-Some-rule.rule c.rule.ensures.value c.in-Some-rule.is in
    IfOk-weaker c.weigh_rule.result _ _ (λ (o : Outcome) w. takable_here g.rules c.args.number _ c.args.node.now o here w) c.weigh_rule.ensures.takable

pub returns-in-None-rule-clause-value : goal.returns-in-None-rule-clause-value
returns-in-None-rule-clause-value c =
    let g = c.args.grammar.now in
    let row = c.in-Some.row in
    let found = found_row c.args.node.now (config_of c.args.rows.now) c.find_row.result row c.find_row.ensures c.in-Some.is in
    at_open g c.args.number None c.args.node.now (map ground_of c.args.args.now) row.now _ (no_rule c.args.grammar.now.rules c.args.number
    c.rule.result c.rule.ensures.value c.in-None-rule.is) c.in_default.is found
