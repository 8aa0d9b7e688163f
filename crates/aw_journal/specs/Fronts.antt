-- What stands at the front of a record.
use Rattle.std.specs.Prelude.{◌≡◌, ℕ, ◌+◌, ◌<◌, ◌≤◌, List, length, take, drop, get_or, None}
use Rattle.aw_journal.specs.Format.{u64_bytes, u64_in}
use Rattle.aw_journal.specs.Events.{event_in}

-- an open gate stands at this place, and behind it that a payload has this length
pub record IsFront (file : List ℕ) (gate n : ℕ) : Type 0 where
  pub within : gate + 9 ≤ length file
  pub open_gate : get_or file gate 0 ≡ 1
  pub bytes : u64_bytes n ≡ take 8 (drop (gate + 1) file)
  pub number : n ≡ u64_in (take 8 (drop (gate + 1) file))

-- so many bytes are no event, or no byte stands behind them
abbrev pub IsNoEvent : List ℕ → ℕ → Type 0
IsNoEvent bytes count = count < length bytes → event_in (take count bytes) ≡ None
