-- What becomes of the journal and its disk where a frame is answered, or is not.
use Rattle.std.specs.Prelude.{ℕ, List}
use Rattle.aw_law_sites.specs.Sites.{Site}
use Rattle.aw_accept.specs.declared.accepted.Accepted.{Accepted}
use Rattle.aw_kept_append.specs.Appending.{Appends, Fails}
use Rattle.aw_typed.specs.declared.data.Typed.{Typed}
use Rattle.aw_msg.specs.Frames.{Frame}
use Rattle.aw_msg.specs.FrameView.{frame_of}
use Rattle.aw_msg.specs.declared.frame.Frame as program
use Rattle.aw_disk.specs.declared.edge.Disk.{Ghosts}
use Rattle.aw_journal.specs.Journal.{Kept}
use Rattle.aw_journal.specs.declared.journal.AppendFault.{AppendFault}
use Rattle.aw_node.specs.TypedNodes.{Rules, rules_of, AnswersAs}
use Rattle.aw_kept_node.specs.KeptEvents.{kept_of}

-- a frame was answered as each site answers that was shown, and what it was is appended
abbrev pub AnswersAndKeeps : {D : Type 0} → Ghosts D → Rules → Frame → (Site → Type 0) → (Site → Type 0) → Kept → Kept → D → D → List ℕ → Type 0
AnswersAndKeeps {D} d r f shows after j k old new bytes = AnswersAs r f shows after bytes × ((s : Site) → shows s → Appends d (kept_of r s f) j k old new)

-- the same of a frame of the program, by its grammar and types
abbrev pub AnswersAndKeepsBy : {D : Type 0} → Ghosts D → Accepted → Typed → program.Frame → (Site → Type 0) → (Site → Type 0) → Kept → Kept → D → D → List ℕ → Type 0
AnswersAndKeepsBy d a t f shows after j k old new bytes = AnswersAndKeeps d (rules_of a.grammar t) (frame_of f) shows after j k old new bytes

-- a frame got no reply at each site that was shown
abbrev pub FailsAsSeen : {D : Type 0} → Ghosts D → Rules → Frame → (Site → Type 0) → Kept → D → D → AppendFault → Type 0
FailsAsSeen {D} d r f shows j old new fault = (s : Site) → shows s → Fails d (kept_of r s f) j old new fault
