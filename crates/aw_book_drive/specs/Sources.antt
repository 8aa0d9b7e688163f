-- What a source of events gives.
use Rattle.std.specs.Prelude.{◌≡◌, ℕ, List, [], ◌∷◌, Some, None, Ok, Err, slice_get, slice_set}
use Rattle.std.specs.declared.option.Option.{Option}
use Rattle.std.specs.declared.result.Result.{Result}
use Rattle.aw_journal.specs.Events.{Event}
use Rattle.aw_journal.specs.EventView.{event_of}
use Rattle.aw_journal.specs.declared.payload.NodeEvent.{NodeEvent}
use Rattle.aw_out.specs.Causes.{Rose}
use Rattle.aw_book_drive.specs.declared.fault.JoinFault.{JoinFault}
use Rattle.aw_book_drive.specs.declared.fault.JoinFault.TheVariants.{Unread, NoMemory}
use Rattle.aw_book_drive.specs.declared.source.SourceFault.{SourceFault}
use Rattle.aw_book_drive.specs.declared.source.SourceFault.TheVariants as one

-- what can come from now on could come before, behind the event that was given; where none was, none could come
abbrev pub Gives : {S : Type 0} → (S → List Event → Type 0) → S → S → Option NodeEvent → Type 0
Gives gives old new None = gives old []
Gives gives old new (Some e) = (rest : List Event) → gives new rest → gives old (event_of e ∷ rest)

-- a read failed where that is told, and nowhere else
abbrev pub CountsReads : ℕ → ℕ → Result (Option NodeEvent) SourceFault → Type 0
CountsReads before now (Ok found) = now ≡ before
CountsReads before now (Err one.Unread) = Rose before now
CountsReads before now (Err one.NoMemory) = now ≡ before

-- a read of this role's journal failed, and of no other
pub record FailsAt (before now : List ℕ) (role : ℕ) : Type 0 where
  pub was : ℕ
  pub is : ℕ
  pub there : slice_get before role ≡ Some was
  pub others : now ≡ slice_set before role is
  pub rose : Rose was is

-- of these counts of reads that failed, one for each journal, one rose where that is told, and nowhere else
abbrev pub TellsReads : {A : Type 0} → List ℕ → List ℕ → Result A JoinFault → Type 0
TellsReads before now (Ok x) = now ≡ before
TellsReads before now (Err (Unread role)) = FailsAt before now role
TellsReads before now (Err NoMemory) = now ≡ before
