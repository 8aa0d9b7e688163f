use Rattle.std.proofs.Common.{◌≡◌, ◌-◌, ◌++◌, suc, length, map, take, drop}
use Rattle.aw_node_list.proofs.chunks.count_up.Given as goal

abbrev pub invariant-loop-at : goal.invariant-loop-at
invariant-loop-at l = l.starts ≡ map suc (take l.at l.initial.starts) ++ drop l.at l.initial.starts

abbrev pub decreases-loop-at : goal.decreases-loop-at
decreases-loop-at l = length l.starts - l.at
