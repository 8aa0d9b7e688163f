use Rattle.std.specs.Prelude.{◌≡◌, ◌≤◌, ◌-◌, length}
use Rattle.aw_book.proofs.older.same_front.Given as goal

-- each piece has the same room
abbrev pub invariant-pieces : goal.invariant-pieces
invariant-pieces g l = record {
  most : l.at ≤ l.count;
  older_room : length l.left ≡ length l.fn.left;
  newer_room : length l.right ≡ length l.fn.right;
}

abbrev pub decreases-pieces : goal.decreases-pieces
decreases-pieces g l = l.count - l.at
