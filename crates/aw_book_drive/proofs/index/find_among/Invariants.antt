use Rattle.std.proofs.Common.{ℕ, take}
use Rattle.aw_list.specs.Members.{Member}
use Rattle.aw_book_drive.specs.Indexes.{IsAt}
use Rattle.aw_book_drive.proofs.index.find_among.Given as goal

-- it stands at none of those so far
abbrev pub invariant-loop-place : goal.invariant-loop-place
invariant-loop-place l = (k : ℕ) → Member k (take l.place l.numbers) → IsAt l.messages l.m k → ⊥
