use Rattle.std.proofs.Common.{sym}
use Rattle.aw_grammar.specs.GrammarView.{rule_of}
use Rattle.aw_law_nodes.specs.Sizes.{RuleSized}
use Rattle.aw_courier.proofs.SizeLemmas.{one_more, none_left}
use Rattle.aw_courier.proofs.sizes.see_rules.Goals as goal

pub loop-rule-preserved : goal.loop-rule-preserved
loop-rule-preserved c =
    let g = c.args.g.now in
    λ rest. c.loop-rule.invariant (one_more RuleSized (rule_of g.sorts) g.rules c.loop-rule.number c.in-Some.rule.now (sym c.in-Some.ensures.value) c.see_rule.ensures rest)

pub returns : goal.returns
returns c =
    let g = c.args.g.now in
    c.loop-rule.invariant (none_left RuleSized (rule_of g.sorts) g.rules c.loop-rule.number c.in_default.ensures.value)
