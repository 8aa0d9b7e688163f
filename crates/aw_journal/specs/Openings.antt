-- What opening a file leaves, and what it answers.
use Rattle.std.specs.Prelude.{◌≡◌, ℕ, ◌≤◌, ◌<◌, ◌+◌, ◌^◌, List, [], ◌∷◌, ◌++◌, IsTrue, false, length, drop, get_or, Result, Ok, Err}
use Rattle.aw_out.specs.Causes.{Rose}
use Rattle.aw_disk.specs.Disk.{LeavesOnly}
use Rattle.aw_disk.specs.declared.edge.Disk.{Ghosts}
use Rattle.aw_journal.specs.Format.{has_head, front, end_of_head, events_from, events_of}
use Rattle.aw_journal.specs.Events.{Event, AllEvents}
use Rattle.aw_journal.specs.EventView.{events_seen}
use Rattle.aw_journal.specs.Journal.{Kept, IsSettled, Quiet}
use Rattle.aw_journal.specs.Opens.{AllOldOrAllSame, HasThisHead, IsForeign, IsOldOrSame, IsSameJournal, OldUntilSynced}
use Rattle.aw_journal.specs.declared.reads.OpenFault.{OpenFault}
use Rattle.aw_journal.specs.declared.reads.OpenFault.TheVariants.{BadHead, DiskFault, Full, NoMemory}

-- why a file is not read: a call of the disk failed, or there is no memory
abbrev pub IsReadFault : ℕ → ℕ → OpenFault → Type 0
IsReadFault before now DiskFault = Rose before now
IsReadFault before now BadHead = ⊥
IsReadFault before now Full = ⊥
IsReadFault before now NoMemory = now ≡ before

-- why no head of a text of this length is made: it has no place within the limit, or it has and there is no memory
abbrev pub IsStartFault : ℕ → ℕ → OpenFault → Type 0
IsStartFault len limit DiskFault = ⊥
IsStartFault len limit BadHead = ⊥
IsStartFault len limit Full = limit < end_of_head len
IsStartFault len limit NoMemory = end_of_head len ≤ limit

-- a file with this head is its open records, a last gate and what lies past it
pub record Resumed (role : ℕ) (text bytes : List ℕ) (gate : ℕ) (events : List Event) : Type 0 where
  pub own : HasThisHead role text bytes
  pub within : gate < length bytes
  pub place : gate ≡ length (front role text events)
  pub is : bytes ≡ front role text events ++ get_or bytes gate 0 ∷ drop (gate + 1) bytes
  pub none : events_from 0 (get_or bytes gate 0 ∷ drop (gate + 1) bytes) ≡ []
  pub events_are : events_of bytes ≡ events
  pub fits : length (front role text events) < 2 ^ 64
  pub all : AllEvents events

-- a crash at any moment of the call leaves a file with the same events and no new head, and so does a read
pub record KeepsJournal {D : Type 0} (d : Ghosts D) (role : ℕ) (text : List ℕ) (old new : D) : Type 0 where
  pub any_moment : IsTrue (d.tells old) → LeavesOnly d.moment d.left_since old new (IsSameJournal role text (d.seen old))
  pub reads_same : IsTrue (d.tells old) → IsSameJournal role text (d.seen old) (d.seen new)
  pub told_same : d.tells new ≡ d.tells old
  pub never_falls : d.faults old ≤ d.faults new

-- the journal of this role and text that was opened in a file
pub record IsOpened {D : Type 0} (d : Ghosts D) (role : ℕ) (text : List ℕ) (limit : ℕ) (old new : D) (j : Kept) : Type 0 where
  pub events_are : IsTrue (d.tells old) → events_seen j.events ≡ events_of (d.seen old)
  pub role_is : j.role ≡ role
  pub text_is : j.text ≡ text
  pub limit_is : j.limit ≡ limit
  pub used : IsTrue j.usable
  pub settled : IsTrue (d.tells old) → IsSettled d.seen d.may_leave new j
  pub own : IsTrue (d.tells old) → IsForeign role text (d.seen old) → ⊥
  pub has_place : IsTrue (d.tells old) → has_head (d.seen old) ≡ false → end_of_head (length text) ≤ limit
  pub unfailed : d.faults new ≡ d.faults old

-- nothing was written, and no call failed
pub record IsUntouched {D : Type 0} (d : Ghosts D) (old new : D) : Type 0 where
  pub quiet : Quiet d.tells d.seen d.may_leave d.moment d.left_since old new
  pub unfailed : d.faults new ≡ d.faults old

-- Until the first sync a crash leaves a file that could be there before, and from then on one with the same events and no new head.
pub record KeepsFile {D : Type 0} (d : Ghosts D) (role : ℕ) (text : List ℕ) (old new : D) : Type 0 where
  pub any_moment : IsTrue (d.tells old) → LeavesOnly d.moment d.left_since old new (IsOldOrSame role text (d.may_leave old) (d.seen old))
  pub first_sync : IsTrue (d.tells old) → OldUntilSynced d (IsSameJournal role text (d.seen old)) old new
  pub images : IsTrue (d.tells old) → AllOldOrAllSame role text (d.may_leave old) (d.seen old) (d.may_leave new)
  pub reads_same : IsTrue (d.tells old) → IsSameJournal role text (d.seen old) (d.seen new)
  pub told_same : d.tells new ≡ d.tells old
  pub never_falls : d.faults old ≤ d.faults new

-- what is answered where a file is read and opened; what is refused for its head or its place, or out of memory, touches nothing
abbrev pub Reopens : {D : Type 0} → Ghosts D → ℕ → List ℕ → ℕ → D → D → Result Kept OpenFault → Type 0
Reopens d role text limit old new (Ok j) = IsOpened d role text limit old new j
Reopens d role text limit old new (Err DiskFault) = Rose (d.faults old) (d.faults new)
Reopens d role text limit old new (Err BadHead) = (IsTrue (d.tells old) → IsForeign role text (d.seen old)) × IsUntouched d old new
Reopens d role text limit old new (Err Full) = (IsTrue (d.tells old) → (has_head (d.seen old) ≡ false) × (limit < end_of_head (length text))) × IsUntouched d old new
Reopens d role text limit old new (Err NoMemory) = IsUntouched d old new
