use Rattle.std.proofs.Common.{◌≡◌, ◌≤◌, vec_len, vec_capacity}
use Rattle.aw_work.proofs.RingLemmas.{AreClosed}
use Rattle.aw_work.proofs.lists.Lists.new.Given as goal

abbrev pub invariant-loop-at : goal.invariant-loop-at
invariant-loop-at l = record {
  sized : vec_len l.links ≡ l.at;
  reserved : l.size ≤ vec_capacity l.links;
  closed : AreClosed l.links.items l.at;
}
