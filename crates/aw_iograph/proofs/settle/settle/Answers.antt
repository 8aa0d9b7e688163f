use Rattle.aw_iograph.proofs.Widenings.{widened_same, widened_both, widened_swept}
use Rattle.aw_iograph.proofs.settle.settle.Goals as goal

pub loop-visits-init : goal.loop-visits-init
loop-visits-init c = record { widened = widened_same c.args.g.now c.args.io.now; visited = c.in_ok-visits.ensures c.args.io.now }

pub loop-visits-preserved : goal.loop-visits-preserved
loop-visits-preserved c = record {
  widened = widened_both c.args.g.now c.args.io.now c.loop-visits.io c.sweep.new.io c.loop-visits.invariant.widened
      (widened_swept c.args.g.now c.loop-visits.io c.sweep.new.io c.in_ok-sweep.field-0 c.in_ok-sweep.ensures.grown c.in_ok-sweep.ensures.follows);
  visited = c.in_ok-sweep.ensures.visited;
}
