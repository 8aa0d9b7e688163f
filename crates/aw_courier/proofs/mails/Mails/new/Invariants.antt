use Rattle.std.proofs.Common.{◌≡◌, ◌≤◌, ◌-◌, ℕ, length, [], replicate}
use Rattle.std.specs.Prelude.{slice_index_or}
use Rattle.aw_courier.proofs.mails.Mails.new.Given as goal

abbrev pub invariant-filling : goal.invariant-filling
invariant-filling l = record {
  many : length l.queues.items ≤ l.roles;
  empty : (b : ℕ) → slice_index_or l.queues.items b [] ≡ [];
  places : l.places.items ≡ replicate (length l.queues.items) 0;
}

abbrev pub decreases-filling : goal.decreases-filling
decreases-filling l = l.roles - length l.queues.items
