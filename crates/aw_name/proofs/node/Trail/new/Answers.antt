use Rattle.aw_name.proofs.Fronts.{empty}
use Rattle.aw_name.proofs.node.Trail.new.Goals as goal

pub invariant_of-result : goal.invariant_of-result
invariant_of-result c = empty
