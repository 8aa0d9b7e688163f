use Rattle.std.proofs.Common.{arith}
use Rattle.aw_term.specs.Views.{ground_of}
use Rattle.aw_codec.specs.Grounds.{spelled_ground}
use Rattle.aw_journal.proofs.Counts.{counted_more, counted_all, con_counted}
use Rattle.aw_journal.proofs.lengths.+counting.Goals as goal

pub each_len-loop-ground-preserved : goal.each_len-loop-ground-preserved
each_len-loop-ground-preserved t c =
    counted_more (λ g. spelled_ground (ground_of g)) 0 c.args.grounds.now c.loop-ground.ground-index c.ground-item.result c.loop-ground.count
    c.ground_len.result c.saturating_add-count.result c.loop-ground-test.true c.ground-item.is c.loop-ground.invariant
    c.ground_len.ensures c.saturating_add-count.ensures

pub each_len-returns : goal.each_len-returns
each_len-returns t c = counted_all spelled_ground ground_of c.args.grounds.now c.loop-ground.ground-index c.loop-ground.count (omega arith) c.loop-ground.invariant

pub ground_len-returns-in-Con : goal.ground_len-returns-in-Con
ground_len-returns-in-Con t c =
    con_counted c.args.ground.now c.in-Con.field-0 c.in-Con.parts c.as_slice.result.now c.each_len.result c.saturating_add.result c.in-Con.is
    c.as_slice.ensures c.each_len.ensures c.saturating_add.ensures
