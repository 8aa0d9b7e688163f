-- Counts that stop at the last value of a u64.
use Rattle.std.specs.Prelude.{ℕ, ◌-◌, ◌^◌, min}

-- the number, or the last value of a u64 where that is less
abbrev pub capped : ℕ → ℕ
capped n = min n (2 ^ 64 - 1)
