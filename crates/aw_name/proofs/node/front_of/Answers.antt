use Rattle.std.proofs.Common.{arith}
use Rattle.aw_name.specs.Front.{front_of}
use Rattle.aw_name.proofs.node.front_of.Goals as goal

pub returns-clause-value : goal.returns-clause-value
unfolding front_of
returns-clause-value c = omega arith
