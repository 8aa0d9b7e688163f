-- When a call may answer that it failed.
use Rattle.std.specs.Prelude.{ℕ, ◌+◌, ◌-◌, ◌^◌, ◌≤◌, min}

-- the count after one more; a count that stands at the last value of a u64 stays there
abbrev pub one_more : ℕ → ℕ
one_more count = min (count + 1) (2 ^ 64 - 1)

-- The count rose from the first number to the second. One that stands at the last value counts as risen.
abbrev pub Rose : ℕ → ℕ → Type 0
Rose before now = one_more before ≤ now
