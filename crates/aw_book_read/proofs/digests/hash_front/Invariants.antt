use Rattle.std.specs.Prelude.{◌≡◌, ℕ, ◌≤◌, ◌<◌, ◌-◌, List, [], Some, Ok, length, take}
use Rattle.sha2.specs.Hashers.{Holds256}
use Rattle.aw_journal.specs.Pieces.{OnlyReads}
use Rattle.aw_book_read.proofs.digests.hash_front.Given as goal

-- the hasher holds what stands before the place
abbrev pub invariant-pieces : goal.invariant-pieces
invariant-pieces g l = record {
  most : l.at ≤ l.count;
  room : 0 < length l.room;
  only : OnlyReads {T = Unit {0}} g.P.Pages (Ok tt) l.fn.pages l.pages;
  hashed : (b : List ℕ) → g.P.Pages.bytes l.fn.pages ≡ Some b → Holds256 l.fn.hasher [] → Holds256 l.hasher (take l.at b);
}

abbrev pub decreases-pieces : goal.decreases-pieces
decreases-pieces g l = l.count - l.at
