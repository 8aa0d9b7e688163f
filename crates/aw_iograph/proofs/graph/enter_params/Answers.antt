use Rattle.aw_iograph.proofs.Behind.{copies_next}
use Rattle.aw_iograph.proofs.graph.enter_params.Goals as goal

pub loop-preserved : goal.loop-preserved
loop-preserved c = copies_next _ _ _ _ _ _ c.loop-test.true c.in_ok-push.ensures.ok c.loop.invariant
