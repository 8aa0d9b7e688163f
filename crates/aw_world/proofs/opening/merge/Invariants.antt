use Rattle.std.proofs.Common.{◌≡◌, ◌++◌, drop, length}
use Rattle.aw_world.specs.NodeLists.{put_among}
use Rattle.aw_world.proofs.opening.merge.Given as goal

-- the nodes so far, and behind them what is left of both lists in one order
abbrev pub invariant-loop-node : goal.invariant-loop-node
invariant-loop-node l = l.nodes.items ++ put_among (drop l.passed.mine l.mine) (drop l.passed.others l.others) ≡ put_among l.mine l.others

abbrev pub decreases-loop-node : goal.decreases-loop-node
decreases-loop-node l = length (put_among (drop l.passed.mine l.mine) (drop l.passed.others l.others))
