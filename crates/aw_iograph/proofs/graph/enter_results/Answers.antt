use Rattle.aw_iograph.proofs.Behind.{upto_next}
use Rattle.std.proofs.Common.{Some}
use Rattle.aw_iograph.specs.Occurrences.{given}
use Rattle.aw_iograph.proofs.graph.enter_results.Goals as goal

pub loop-l-preserved : goal.loop-l-preserved
loop-l-preserved c = upto_next (λ j. Some (given c.args.child j)) _ _ _ _ _ c.loop-l-test.true c.in_ok-push.ensures.ok c.loop-l.invariant
