use Rattle.std.specs.Vec.Iter.{into_iter_items}
use Rattle.aw_modular.proofs.Wholes.{appended}
use Rattle.aw_modular.proofs.join_parts.append.Goals as goal

pub loop-rule-preserved : goal.loop-rule-preserved
loop-rule-preserved c =
    appended c.loop-rule.rules c.push.new.self c.in-Some.rule (into_iter_items c.next.new.self) (into_iter_items c.loop-rule.rule-iterator) _
    c.in-Some.ensures.steps.0 c.in_ok-push.ensures.ok c.loop-rule.invariant
