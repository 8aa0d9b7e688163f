-- What contracts see of a journal, and of the disk that it stands on.
use Rattle.std.specs.Prelude.{◌≡◌, ◌≢◌, ◌⊎◌, ℕ, ◌+◌, List, [], ◌∷◌, ◌++◌, Bool, IsTrue, length, drop}
use Rattle.aw_disk.specs.Disk.{Only, Torn, LeavesOnly}
use Rattle.aw_journal.specs.Format.{front}
use Rattle.aw_journal.specs.Events.{Event, AllEvents}
use Rattle.aw_journal.specs.EventView.{events_seen}
use Rattle.aw_journal.specs.Opens.{HasEvents}
use Rattle.aw_journal.specs.declared.payload.NodeEvent.{NodeEvent}
use Rattle.aw_journal.specs.declared.journal.Journal.TheInside.{Inside}

-- the head, the events, the most bytes that the file may have, and whether no append has met a fault of the disk
pub record Kept : Type 0 where
  pub role : ℕ
  pub text : List ℕ
  pub events : List NodeEvent
  pub limit : ℕ
  pub usable : Bool

-- what is seen of the inside of a journal
abbrev pub kept : Inside → Kept
kept j = record { role = j.role; text = j.text; events = j.events.items; limit = j.limit; usable = j.usable }

-- the gate stands behind the head and the open records, and each of them is an event
pub record IsKept (j : Inside) : Type 0 where
  pub gate : j.gate ≡ length (front j.role j.text (events_seen j.events.items))
  pub all : AllEvents (events_seen j.events.items)

-- the file begins with the head, the open records and a closed gate
pub record StandsFor (j : Kept) (file : List ℕ) : Type 0 where
  pub gate : ℕ
  pub rest : List ℕ
  pub shut : gate ≢ 1
  pub is : file ≡ front j.role j.text (events_seen j.events) ++ gate ∷ rest

-- the same, and a crash leaves nothing but this file
pub record IsSettled {D : Type 0} (seen : D → List ℕ) (may_leave : D → List ℕ → Type 0) (disk : D) (j : Kept) : Type 0 where
  pub file : StandsFor j (seen disk)
  pub durable : Only (seen disk) (may_leave disk)

-- the file has the events of the journal, and no head but its own
abbrev pub HasEventsOf : Kept → List ℕ → Type 0
HasEventsOf j file = HasEvents j.role j.text (events_seen j.events) file

-- the same, with one event more or without it
abbrev pub IsBeforeOrAfter : Kept → Event → List ℕ → Type 0
IsBeforeOrAfter j event file = HasEventsOf j file ⊎ HasEvents j.role j.text (events_seen j.events ++ event ∷ []) file

-- an outcome of before after a write of n bytes that may have done any part of its work
abbrev pub AfterTorn : ℕ → ℕ → (List ℕ → Type 0) → List ℕ → Type 0
AfterTorn at n outcomes c = (d : List ℕ) × outcomes d × Torn at n d c

-- where the file ends once a record of this event stands, with the gate behind it
abbrev pub end_after : Kept → Event → ℕ
end_after j event = length (front j.role j.text (events_seen j.events ++ event ∷ [])) + 1

-- the disk tells its bytes: these, a gate at this place and those behind it, and a crash leaves nothing else
pub record StandsAt {D : Type 0} (tells : D → Bool) (seen : D → List ℕ) (may_leave : D → List ℕ → Type 0) (disk : D) (place : ℕ) (before rest : List ℕ) (gate : ℕ) : Type 0 where
  pub told : IsTrue (tells disk)
  pub is : seen disk ≡ before ++ gate ∷ rest
  pub durable : Only (seen disk) (may_leave disk)
  pub place_is : place ≡ length before

-- the gate as it was, with any bytes behind it, or any gate with these behind it
abbrev pub IsAround : List ℕ → ℕ → List ℕ → List ℕ → Type 0
IsAround before gate behind c = ((tail : List ℕ) × (c ≡ before ++ gate ∷ tail)) ⊎ ((other : ℕ) × (c ≡ before ++ other ∷ behind))

-- the bytes behind the gate after these were written there
abbrev pub behind_gate : List ℕ → List ℕ → List ℕ
behind_gate bytes rest = bytes ++ drop (length bytes) rest

-- Nothing was written, at most synced: the same is read, and a crash leaves nothing new, at any moment.
pub record Quiet {D : Type 0} (tells : D → Bool) (seen : D → List ℕ) (may_leave : D → List ℕ → Type 0) (moment : D → ℕ) (left_since : D → ℕ → List ℕ → Type 0) (old new : D) : Type 0 where
  pub told_same : tells new ≡ tells old
  pub seen_same : seen new ≡ seen old
  pub no_more : (c : List ℕ) → may_leave new c → may_leave old c
  pub any_moment : LeavesOnly moment left_since old new (may_leave old)

-- a read gives these bytes, and a crash leaves them
pub record IsAll {D : Type 0} (seen : D → List ℕ) (may_leave : D → List ℕ → Type 0) (disk : D) (bytes : List ℕ) : Type 0 where
  pub is : seen disk ≡ bytes
  pub durable : Only (seen disk) (may_leave disk)

-- a closed first byte, durable
pub record StartsClosed {D : Type 0} (tells : D → Bool) (seen : D → List ℕ) (may_leave : D → List ℕ → Type 0) (disk : D) : Type 0 where
  pub rest : List ℕ
  pub shut : ℕ
  pub closed : shut ≢ 1
  pub stands : StandsAt tells seen may_leave disk 0 [] rest shut
