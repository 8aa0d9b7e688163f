use Rattle.std.proofs.Common.{◌∙◌}
use Rattle.aw_iograph.proofs.Joining.{led_next}
use Rattle.aw_iograph.proofs.joins.join_all.Goals as goal

pub loop-preserved : goal.loop-preserved
loop-preserved c = record {
  size = c.in_ok-join_rule.ensures.size ∙ c.loop.invariant.size;
  places = c.in_ok-join_rule.ensures.places ∙ c.loop.invariant.places;
  kept = λ v i on. c.in_ok-join_rule.ensures.kept v i (c.loop.invariant.kept v i on);
  led = λ start. led_next _ _ _ _ _ _ (c.loop.invariant.led start) c.in_ok-join_rule.ensures;
}

pub returns-clause-kept : goal.returns-clause-kept
returns-clause-kept c v i on = c.in_ok-join_rule.ensures.kept v i (c.loop.invariant.kept v i on)

pub returns-clause-led : goal.returns-clause-led
returns-clause-led c start = led_next _ _ _ _ _ _ (c.loop.invariant.led start) c.in_ok-join_rule.ensures

pub returns-clause-joined : goal.returns-clause-joined
returns-clause-joined c a p = (c.in_ok-join_rule.ensures.joined c.if-branch.false a p).0
