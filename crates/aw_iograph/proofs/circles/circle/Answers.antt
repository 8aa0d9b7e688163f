use Rattle.aw_grammar.specs.GrammarView.{rule_of}
use Rattle.aw_iograph.specs.Pairs.{Has}
use Rattle.aw_iograph.proofs.CircleLemmas.{least_circle, rule_here}
use Rattle.aw_iograph.proofs.circles.circle.Goals as goal

pub returns : goal.returns
returns c r e =
    least_circle (rule_of c.args.g.now.sorts c.small_rule-rule.result.now) r (Has c.args.io.now) c.in_ok-rows.rows.items c.as_slice.result.now c.first_on_circle.result
    (rule_here (rule_of c.args.g.now.sorts) c.args.g.now.rules c.from.result c.args.rule c.small_rule-rule.result.now r c.small_rule-rule.ensures.value c.from.ensures e)
    c.as_slice.ensures.value c.in_ok-rows.ensures.there c.in_ok-rows.ensures.only c.first_on_circle.ensures
