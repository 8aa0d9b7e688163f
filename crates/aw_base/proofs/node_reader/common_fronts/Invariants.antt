use Rattle.std.proofs.Common.{◌≤◌, length}
use Rattle.aw_base.proofs.node_reader.common_fronts.Given as goal

abbrev pub invariant-loop-kept : goal.invariant-loop-kept
invariant-loop-kept l = l.kept ≤ length l.fronts

abbrev pub decreases-loop-kept : goal.decreases-loop-kept
decreases-loop-kept l = l.kept
