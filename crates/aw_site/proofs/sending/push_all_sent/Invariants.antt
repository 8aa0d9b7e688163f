use Rattle.std.proofs.Common.{◌≡◌, ◌++◌, ◌+◌, ◌≤◌, length}
use Rattle.std.specs.Prelude.{vec_len, vec_capacity}
use Rattle.std.specs.Vec.Iter.{into_iter_items}
use Rattle.aw_site.proofs.sending.push_all_sent.Given as goal

abbrev pub invariant-loop-message : goal.invariant-loop-message
invariant-loop-message l = record {
  items : l.outbox.items ++ into_iter_items l.message-iterator ≡ l.fn.outbox.items ++ l.fn.sent.items;
  room : vec_len l.outbox + length (into_iter_items l.message-iterator) ≤ vec_capacity l.outbox;
}
