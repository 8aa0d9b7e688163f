-- The head at the front of a file that is read.
use Rattle.std.specs.Prelude.{◌≡◌, ℕ, ◌+◌, ◌<◌, ◌≤◌, List, [], ◌∷◌, ◌++◌, true, false, length, take, drop, get_or}
use Rattle.aw_journal.specs.Format.{head, u16_bytes, u64_bytes, u64_in}
use Rattle.aw_journal.specs.Records.{IsAtEnd, IsBehind}
use Rattle.aw_journal.specs.Standing.{has_whole_head}
use Rattle.aw_journal.specs.declared.beginning.Begun.{Begun}
use Rattle.aw_journal.specs.declared.beginning.Begun.TheVariants.{Whole, Headless}

-- an open gate, this role, and that a text has this length
pub record IsHeadFront (file : List ℕ) (role n : ℕ) : Type 0 where
  pub long : 11 ≤ length file
  pub open_gate : get_or file 0 0 ≡ 1
  pub role_is : u16_bytes role ≡ take 2 (drop 1 file)
  pub bytes : u64_bytes n ≡ take 8 (drop 3 file)
  pub number : n ≡ u64_in (take 8 (drop 3 file))

-- the same, and the text has its place with a gate behind it
pub record IsHead (file : List ℕ) (role n : ℕ) : Type 0 where
  pub front : IsHeadFront file role n
  pub within : 11 + n < length file

-- A head stands whole in front of these records, or none does.
abbrev pub Begins : List ℕ → Begun → Type 0
Begins file (Whole role text records) = (file ≡ 1 ∷ (head role text ++ drop records.gate file)) × IsBehind file [] records
Begins file (Headless records) = (has_whole_head file ≡ false) × IsAtEnd file records

-- what holds of a reader that begins, whether or not the bytes are told
abbrev pub BeginsSo : Begun → Type 0
BeginsSo (Whole role text records) = (records.headed ≡ true) × (records.gate ≡ 11 + length text) × (records.room ≤ 1114114)
BeginsSo (Headless records) = (records.headed ≡ false) × (records.gate ≡ 0) × (records.room ≤ 1114114)
