use Rattle.std.proofs.Common.{◌<◌, ◌≤◌, ◌-◌, length, get_or}
use Rattle.aw_node_list.proofs.chunks.search_under.Given as goal

abbrev pub invariant-loop-high : goal.invariant-loop-high
invariant-loop-high l = record {
  below : l.low < l.high;
  most : l.high ≤ length l.starts;
  from : get_or l.starts l.low 0 ≤ l.place;
  to : l.high < length l.starts → l.place < get_or l.starts l.high 0;
}

abbrev pub decreases-loop-high : goal.decreases-loop-high
decreases-loop-high l = l.high - l.low
