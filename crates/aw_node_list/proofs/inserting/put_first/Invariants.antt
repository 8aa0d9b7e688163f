use Rattle.std.proofs.Common.{◌≡◌, ◌<◌, ◌-◌, ◌+◌, ◌++◌, length, take, drop}
use Rattle.aw_node_list.proofs.inserting.put_first.Given as goal

abbrev pub invariant-loop-to : goal.invariant-loop-to
invariant-loop-to l = record {
  within : l.to < length l.initial.numbers;
  moved : l.numbers ≡ take (l.to + 1) l.initial.numbers ++ drop l.to (take (length l.initial.numbers - 1) l.initial.numbers);
}

abbrev pub decreases-loop-to : goal.decreases-loop-to
decreases-loop-to l = l.to
