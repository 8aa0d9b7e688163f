-- What becomes of the journal and its disk where the event of a frame is appended, or is not.
use Rattle.std.specs.Prelude.{◌≡◌, ◌⊎◌, ℕ, ◌<◌, ◌≤◌, List, [], ◌∷◌, ◌++◌, IsTrue, Option, None, Some}
use Rattle.aw_out.specs.Causes.{Rose}
use Rattle.aw_disk.specs.Disk.{LeavesOnly}
use Rattle.aw_disk.specs.declared.edge.Disk.{Ghosts}
use Rattle.aw_journal.specs.Events.{Event}
use Rattle.aw_journal.specs.EventView.{events_seen}
use Rattle.aw_journal.specs.Journal.{Kept, HasEventsOf, IsBeforeOrAfter, end_after}
use Rattle.aw_journal.specs.declared.journal.AppendFault.{AppendFault}
use Rattle.aw_journal.specs.declared.journal.AppendFault.TheVariants.{DiskFault, Full, NoMemory}

-- An event was written, in part or whole. A crash at any moment leaves the events from before it, with the new one or without, and no head but the
-- journal's own.
pub record Writes {D : Type 0} (d : Ghosts D) (e : Event) (j : Kept) (old new : D) : Type 0 where
  pub moments : IsTrue (d.tells old) → LeavesOnly d.moment d.left_since old new (IsBeforeOrAfter j e)
  pub tells_same : d.tells new ≡ d.tells old
  pub never_falls : d.faults old ≤ d.faults new

-- The event was appended within the limit: from then on each crash leaves a file that has it.
pub record IsAppended {D : Type 0} (d : Ghosts D) (e : Event) (j k : Kept) (old new : D) : Type 0 where
  pub writes : Writes d e j old new
  pub added : events_seen k.events ≡ events_seen j.events ++ e ∷ []
  pub same_role : k.role ≡ j.role
  pub same_text : k.text ≡ j.text
  pub same_limit : k.limit ≡ j.limit
  pub within : end_after j e ≤ j.limit
  pub durable : IsTrue (d.tells old) → (c : List ℕ) → d.may_leave new c → HasEventsOf k c

-- what a frame was is appended, and nothing is done where it was no event
abbrev pub Appends : {D : Type 0} → Ghosts D → Option Event → Kept → Kept → D → D → Type 0
Appends {D} d None j k old new = (k ≡ j) × (new ≡ old)
Appends {D} d (Some e) j k old new = IsAppended d e j k old new

-- nothing was written, or this event, whose record has room
abbrev pub Tries : {D : Type 0} → Ghosts D → Option Event → Kept → D → D → Type 0
Tries {D} d event j old new = (new ≡ old) ⊎ ((e : Event) × (event ≡ Some e) × Writes d e j old new × (end_after j e ≤ j.limit))

-- Why a frame got no reply: the disk had a fault, or the record of its event would end past the limit, or memory ran out.
abbrev pub Because : {D : Type 0} → Ghosts D → Option Event → Kept → D → D → AppendFault → Type 0
Because {D} d event j old new DiskFault = Rose (d.faults old) (d.faults new)
Because {D} d event j old new Full = (e : Event) × (event ≡ Some e) × (j.limit < end_after j e)
Because {D} d event j old new NoMemory = Unit {0}

-- a frame got no reply, for this cause
abbrev pub Fails : {D : Type 0} → Ghosts D → Option Event → Kept → D → D → AppendFault → Type 0
Fails {D} d event j old new fault = Tries d event j old new × Because d event j old new fault
