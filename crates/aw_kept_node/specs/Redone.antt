-- The events of a journal, done again in turn.
use Rattle.std.specs.Prelude.{◌≡◌, ℕ, true, false, List}
use Rattle.aw_law_sites.specs.Sites.{Site}
use Rattle.aw_journal.specs.Events.{Event}
use Rattle.aw_node.specs.TypedNodes.{Rules, HandlesAs}
use Rattle.aw_msg.specs.Responses.{Response}
use Rattle.aw_kept_node.specs.KeptEvents.{frame_for, is_kept, after_event, site_by, AreKept, IsFirstBad}
use Rattle.aw_kept_node.specs.declared.fault.KeptFault.{KeptFault}
use Rattle.aw_kept_node.specs.declared.fault.KeptFault.TheVariants.{NetFault, DiskFault, BadHead, BadEvent, Full, NoMemory}

-- the frame that stands for the event is answered as each site answers that was shown
abbrev pub HandlesEvent : Rules → Event → (Site → Type 0) → (Site → Type 0) → Response → Type 0
HandlesEvent r e old new response = HandlesAs r (frame_for e) old new response

-- the event is one, and the site behind it is shown
abbrev pub Redoes : Rules → Site → Event → (Site → Type 0) → Type 0
Redoes r s e shows = (is_kept r s e ≡ true) × shows (after_event r s e)

-- each of them is one when it comes, and the site behind them is shown
abbrev pub RedoesAll : Rules → Site → List Event → (Site → Type 0) → Type 0
RedoesAll r s events shows = AreKept r s events × shows (site_by r s events)

-- the event of this number is none, or memory ran out
abbrev pub StopsAt : Rules → Site → ℕ → Event → KeptFault → Type 0
StopsAt r s number e NetFault = ⊥
StopsAt r s number e DiskFault = ⊥
StopsAt r s number e BadHead = ⊥
StopsAt r s number e (BadEvent n) = (n ≡ number) × (is_kept r s e ≡ false)
StopsAt r s number e Full = ⊥
StopsAt r s number e NoMemory = Unit {0}

-- this is the number of the first that is none, or memory ran out
abbrev pub StopsRedoing : Rules → Site → List Event → KeptFault → Type 0
StopsRedoing r s events NetFault = ⊥
StopsRedoing r s events DiskFault = ⊥
StopsRedoing r s events BadHead = ⊥
StopsRedoing r s events (BadEvent n) = IsFirstBad r s events n
StopsRedoing r s events Full = ⊥
StopsRedoing r s events NoMemory = Unit {0}
