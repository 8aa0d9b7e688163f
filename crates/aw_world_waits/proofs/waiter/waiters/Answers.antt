use Rattle.aw_world_waits.proofs.Walked.{drop_here, left_behind, made_more}
use Rattle.aw_world_waits.proofs.waiter.waiters.Goals as goal

pub loop-place-preserved : goal.loop-place-preserved
loop-place-preserved c = λ g k items.
    let i = c.loop-place.place in
    let h = c.at.result.now in
    let here = drop_here c.args.nodes.now.items i h c.at.ensures in
    let (made, left) = c.loop-place.invariant g k items in (
      made_more g k c.args.nodes.now.items c.requires i h here c.loop-place.rest.now left c.count_of.result c.split_at.result.0.now c.in_ok-waiter_of.field-0 c.loop-place.made c.push.new.self _
          c.count_of.ensures.value c.split_at.ensures.front c.in_ok-waiter_of.ensures c.in_ok-push.ensures.ok made,
      left_behind g k c.args.nodes.now.items c.requires i h here c.loop-place.rest.now left c.count_of.result c.split_at.result.1.now c.count_of.ensures.value c.split_at.ensures.back,
    )
