-- Whether a relation of the program has a pair, as a test.
use Rattle.std.specs.Prelude.{ℕ, Bool, false, ◌&&◌, Option, None, Some, slice_get, nat_lt, nat_le}
use Rattle.aw_iograph.specs.declared.io.Io.{Io}
use Rattle.aw_iograph.specs.Pairs.{mark_of}

-- from 1 to 8, as inherited values and results are numbered
abbrev pub is_number : ℕ → Bool
is_number i = nat_lt 0 i && nat_le i 8

-- there is such a mark, and it is set
abbrev pub is_set : Option Bool → Bool
is_set None = false
is_set (Some mark) = mark

-- the pair of inherited value i and result j of sort s is marked
abbrev pub has_pair : Io → ℕ → ℕ → ℕ → Bool
has_pair io s i j = is_number i && (is_number j && is_set (slice_get io.marks.items (mark_of s i j)))
