-- What stands at the front of some bytes and how many bytes it has; or the first fault and its place.
use Rattle.std.specs.Prelude.{◌≡◌, ◌≤◌, ℕ, ◌-◌, List, ◌++◌, length, take, Result, Ok, Err, IfOk}
use Rattle.aw_codec.specs.Reading as reading
use Rattle.aw_codec.specs.declared.unread.Unread.{Unread}
use Rattle.aw_codec.specs.declared.unread.Unread.TheVariants as unread
use Rattle.aw_codec.specs.declared.fault.MsgFault.{MsgFault}
use Rattle.aw_codec.specs.declared.fault.MsgFault.TheVariants as told

-- Short: fewer bytes are left than the next item has. Bad: an item breaks its rule, whose first byte stands at this place, from 0.
pub data Fault : Type 0 where
  Short : Fault
  Bad : (at : ℕ) → Fault

-- what was read at the front of these bytes, with how many of them it has in place of those behind it, or with the place of the fault
abbrev pub placed : {A : Type 0} → List ℕ → Result (A × List ℕ) reading.Fault → Result (A × ℕ) Fault
placed bytes (Ok x) = Ok (x.0, length bytes - length x.1)
placed bytes (Err reading.Short) = Err Short
placed bytes (Err (reading.Bad left)) = Err (Bad (length bytes - left))

-- the answer, seen by view, is what stands there, unless memory ran out
abbrev pub Decodes : {X Y : Type 0} → (X → Y) → Result (X × ℕ) MsgFault → Result (Y × ℕ) Fault → Type 0
Decodes view (Ok x) read = read ≡ Ok (view x.0, x.1)
Decodes view (Err told.Short) read = read ≡ Err Short
Decodes view (Err (told.Bad at)) read = read ≡ Err (Bad at)
Decodes view (Err told.NoMemory) read = Unit {0}

-- a fault of reading so many bytes, as it is told: with its place from their front
abbrev pub placed_fault : ℕ → Unread → MsgFault
placed_fault whole unread.Short = told.Short
placed_fault whole (unread.Bad left) = told.Bad (whole - left)
placed_fault whole unread.NoMemory = told.NoMemory

-- what was found is in range, and these are its bytes
abbrev pub Finds : {X Y : Type 0} → (X → Y) → (Y → List ℕ) → (Y → Type 0) → List ℕ → Result (X × ℕ) MsgFault → Type 0
Finds view spelled InRange bytes result = IfOk result (λ x. (x.1 ≤ length bytes) × (take x.1 bytes ≡ spelled (view x.0)) × InRange (view x.0))

-- where a value in range is spelled at the front, it is found
abbrev pub IsFound : {X Y : Type 0} → (X → Y) → (Y → List ℕ) → (Y → Type 0) → (Y → Type 0) → List ℕ → Result (X × ℕ) MsgFault → Type 0
IsFound {X} {Y} view spelled Sized InRange bytes result = (y : Y) (rest : List ℕ) → Sized y → InRange y → bytes ≡ spelled y ++ rest → Decodes view result (Ok (y, length (spelled y)))
