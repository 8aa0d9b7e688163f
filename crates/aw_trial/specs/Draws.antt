-- Numbers that are drawn one after the other, each from the one before.
use Rattle.std.specs.Prelude.{ℕ, ◌+◌, ◌*◌, ◌/◌, ◌%◌, ◌^◌}
use Rattle.aw_trial.specs.declared.tally.Tally.{Tally}

-- the number behind x: an odd multiple of it and an odd number more, modulo 2^64
unfoldable pub following : ℕ → ℕ
following x = (x * 6364136223846793005 + 1442695040888963407) % 2 ^ 64

-- what x gives below m: x without its last 33 bits, modulo m
unfoldable pub drawn : ℕ → ℕ → ℕ
drawn m x = (x / 2 ^ 33) % m

-- what is drawn next, below m
abbrev pub next_below : ℕ → Tally → ℕ
next_below m t = drawn m (following t.seed)

-- the tally once it is drawn
abbrev pub drew : Tally → Tally
drew t = record t { seed = following t.seed }
