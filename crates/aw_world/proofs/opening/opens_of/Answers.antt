use Rattle.aw_world.proofs.OpenNodes.{opened}
use Rattle.aw_world.proofs.opening.opens_of.Goals as goal

pub loop-place-preserved : goal.loop-place-preserved
loop-place-preserved c = λ p.
    opened p c.args.held.now.items c.loop-place.place c.at.result.now c.loop-place.nodes.items c.push_open.new.nodes.items _ c.at.ensures c.in_ok-push_open.ensures (c.loop-place.invariant p)
