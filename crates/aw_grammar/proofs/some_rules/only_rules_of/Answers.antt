use Rattle.std.proofs.Common.{◌∙◌}
use Rattle.aw_grammar.specs.declared.rule.Rule.{Rule}
use Rattle.aw_grammar.specs.GrammarView.{rule_of, sorts_of}
use Rattle.aw_grammar.specs.SomeRules.{is_at}
use Rattle.aw_grammar.proofs.KeptRules.{good_kept, variables_kept, shown_kept}
use Rattle.aw_grammar.proofs.some_rules.only_rules_of.Goals as goal

pub of_declared-requires-clause-well_formed : goal.of_declared-requires-clause-well_formed
of_declared-requires-clause-well_formed c =
    let g = c.args.g.now in
    let test = λ (r : Rule). is_at (sorts_of g.sorts) c.args.role (rule_of g.sorts r) in
    good_kept g.roles g.cons g.sorts g.rules test c.in_ok-roles.roles c.in_ok-cons.cons c.in_ok-sorts.sorts c.in_ok-rules.rules c.in_ok-roles.ensures
    c.in_ok-cons.ensures c.in_ok-sorts.ensures c.in_ok-rules.ensures g.well_formed

pub of_declared-requires-clause-variables : goal.of_declared-requires-clause-variables
of_declared-requires-clause-variables c =
    let g = c.args.g.now in
    let test = λ (r : Rule). is_at (sorts_of g.sorts) c.args.role (rule_of g.sorts r) in
    variables_kept g.cons g.sorts g.rules test c.in_ok-cons.cons c.in_ok-sorts.sorts c.in_ok-rules.rules c.in_ok-cons.ensures c.in_ok-sorts.ensures c.in_ok-rules.ensures g.variables_fit

pub returns-clause-grammar : goal.returns-clause-grammar
returns-clause-grammar c =
    let g = c.args.g.now in
    let h = c.in_ok-kept.kept in
    shown_kept g.roles g.cons g.sorts g.rules (is_at (sorts_of g.sorts) c.args.role) h.roles h.cons h.sorts h.rules
    (c.in_ok-kept.ensures.roles ∙ c.in_ok-roles.ensures) (c.in_ok-kept.ensures.cons ∙ c.in_ok-cons.ensures) (c.in_ok-kept.ensures.sorts
    ∙ c.in_ok-sorts.ensures) (c.in_ok-kept.ensures.rules ∙ c.in_ok-rules.ensures)
