use Rattle.aw_iograph.proofs.StepArcs.{pair_arc}
use Rattle.aw_iograph.proofs.arcs.call.Goals as goal

pub returns : goal.returns
returns c = pair_arc c.from-first.result c.args.child c.args.pair c.from-first.ensures
