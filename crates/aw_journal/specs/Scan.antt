-- Records found in a file, and what is left of one whose end is cut off.
use Rattle.std.specs.Prelude.{◌≡◌, ℕ, ◌+◌, ◌-◌, ◌<◌, ◌≤◌, List, [], ◌∷◌, ◌++◌, length, take, drop}
use Rattle.aw_journal.specs.Format.{framed, record_of, records, events_from}
use Rattle.aw_journal.specs.Events.{Event}

-- the record behind the open gate at one place ends before the gate at the other
pub record Found (bytes : List ℕ) (gate next : ℕ) : Type 0 where
  pub within : next < length bytes
  pub later : gate + 9 ≤ next
  pub parts : drop gate bytes ≡ 1 ∷ (framed (take (next - (gate + 9)) (drop (gate + 9) bytes)) ++ drop next bytes)

-- the record is that of this event
pub record FoundEvent (bytes : List ℕ) (gate next : ℕ) (event : Event) : Type 0 where
  pub within : next < length bytes
  pub parts : drop gate bytes ≡ 1 ∷ (record_of event ++ drop next bytes)

-- these records stand between the two places, and no more behind the other
pub record FoundAll (bytes : List ℕ) (from gate : ℕ) (events : List Event) : Type 0 where
  pub within : gate < length bytes
  pub parts : drop from bytes ≡ records events ++ drop gate bytes
  pub no_more : events_from 0 (drop gate bytes) ≡ []

-- a payload of this length stands behind its length, and a gate behind it
pub record IsPayload (rest : List ℕ) (n : ℕ) : Type 0 where
  pub within : 8 + n < length rest
  pub parts : rest ≡ framed (take n (drop 8 rest)) ++ drop (8 + n) rest
