-- What a run says to an input.
use Rattle.std.specs.Prelude.{◌≡◌, ◌⊎◌, ℕ, List, Option, Some, None, codes, Bool, true, false}
use Rattle.aw_out.specs.Causes.{Rose}
pub use Rattle.aw_run.specs.OfInputs.{ForInput, WritesSome}
use Rattle.aw_front.specs.Replies.{Replies, reply, reply_with}
pub use Rattle.aw_run.specs.Devices.{Devices, Wired, around, wired, wired_in}
use Rattle.aw_run.specs.declared.words.Command.{Command}
use Rattle.aw_run.specs.declared.words.Command.TheVariants.{Reads, Tries, Serves, Keeps, Carries}
use Rattle.aw_front.specs.declared.reply.Reply.{Reply}
use Rattle.aw_front.specs.declared.reply.Status.{Status}
use Rattle.aw_front.specs.declared.reply.Status.TheVariants.{Done, Usage, NetFault, NoMemory, ReadFault, WriteFault, BadReply}
use Rattle.aw_run.specs.Words.{command_of, role_word}
use Rattle.aw_front.specs.Output.{Writes}
use Rattle.aw_run.specs.Output.{IsOutputOf}
use Rattle.aw_run.specs.Serving.{IsServingOutputOf}
use Rattle.aw_run.specs.Keeping.{IsKeepingOutputOf}
use Rattle.aw_run.specs.Carrying.{IsCarryingOutputOf}
use Rattle.aw_run.specs.Statuses.{IsJournalStop}
use Rattle.aw_run.specs.Trials.{trial_output}

-- What a run of these words, which spell this command or none, may say to this input.
abbrev pub SaysAs : Option Command → List (List ℕ) → List ℕ → Devices → Reply → Type 0
SaysAs None words input x said = said ≡ reply Usage (codes "usage\n")
SaysAs (Some (Reads job)) words input x said = Replies (IsOutputOf job input) said
SaysAs (Some (Tries number)) words input x said = said ≡ reply_with (trial_output number)
SaysAs (Some (Serves sessions)) words input x said = Replies (IsServingOutputOf (role_word words) sessions (wired_in x) input) said
SaysAs (Some (Keeps sessions)) words input x said = Replies (IsKeepingOutputOf (role_word words) sessions x input) said
SaysAs (Some (Carries rounds)) words input x said = Replies (IsCarryingOutputOf rounds (wired_in x) input) said

-- What a run of these words may say to this input.
abbrev pub Says : List (List ℕ) → List ℕ → Devices → Reply → Type 0
Says words = SaysAs (command_of words) words

-- What a run of these words may say to this input has P.
abbrev pub SomeReply : List (List ℕ) → List ℕ → Devices → (Reply → Type 0) → Type 0
SomeReply words input x P = (said : Reply) × Says words input x said × P said

-- The status of a run of these words on this input, where nothing fails and memory suffices.
abbrev pub EndsWith : List (List ℕ) → List ℕ → Devices → Status → Type 0
EndsWith words input x status = SomeReply words input x (λ said. status ≡ said.status)

-- The words make a text of the input: they are a command, and the input is good and within its limits, as the text is.
abbrev pub IsGood : List (List ℕ) → List ℕ → Devices → Type 0
IsGood words input x = (text : List ℕ) × Says words input x (reply Done text)

-- whether a command reads the source
abbrev pub reads : Option Command → Bool
reads None = false
reads (Some (Reads job)) = true
reads (Some (Tries number)) = false
reads (Some (Serves sessions)) = true
reads (Some (Keeps sessions)) = true
reads (Some (Carries rounds)) = true

-- whether a command uses the wire
abbrev pub uses_wire : Option Command → Bool
uses_wire None = false
uses_wire (Some (Reads job)) = false
uses_wire (Some (Tries number)) = false
uses_wire (Some (Serves sessions)) = true
uses_wire (Some (Keeps sessions)) = true
uses_wire (Some (Carries rounds)) = true

-- whether a command uses the disk
abbrev pub uses_disk : Option Command → Bool
uses_disk None = false
uses_disk (Some (Reads job)) = false
uses_disk (Some (Tries number)) = false
uses_disk (Some (Serves sessions)) = false
uses_disk (Some (Keeps sessions)) = true
uses_disk (Some (Carries rounds)) = false

-- whether a command carries messages between nodes
abbrev pub carries : Option Command → Bool
carries None = false
carries (Some (Reads job)) = false
carries (Some (Tries number)) = false
carries (Some (Serves sessions)) = false
carries (Some (Keeps sessions)) = false
carries (Some (Carries rounds)) = true

-- more openings of a session failed
abbrev pub OpeningFailed : Wired → Type 0
OpeningFailed x = Rose (x.wire.failed_openings x.before) (x.wire.failed_openings x.after)

-- more calls of the wire failed
abbrev pub CallFailed : Wired → Type 0
CallFailed x = Rose (x.wire.faults x.before) (x.wire.faults x.after)

-- no further opening of a session failed
abbrev pub OpeningsKept : Wired → Type 0
OpeningsKept x = x.wire.failed_openings x.after ≡ x.wire.failed_openings x.before

-- no further call of the wire failed
abbrev pub CallsKept : Wired → Type 0
CallsKept x = x.wire.faults x.after ≡ x.wire.faults x.before

-- What failed of the wire where a command tells that the net failed: a node tells that the next session could not be opened, a courier that any call failed.
abbrev pub NetFailed : Option Command → Wired → Type 0
NetFailed None x = ⊥
NetFailed (Some (Reads job)) x = ⊥
NetFailed (Some (Tries number)) x = ⊥
NetFailed (Some (Serves sessions)) x = OpeningFailed x
NetFailed (Some (Keeps sessions)) x = OpeningFailed x
NetFailed (Some (Carries rounds)) x = CallFailed x

-- What did not fail of the wire where a command tells no such failure: with a node no opening, with a courier no call, and with a command that does not use
-- the wire neither.
abbrev pub NetKept : Option Command → Wired → Type 0
NetKept None x = OpeningsKept x × CallsKept x
NetKept (Some (Reads job)) x = OpeningsKept x × CallsKept x
NetKept (Some (Tries number)) x = OpeningsKept x × CallsKept x
NetKept (Some (Serves sessions)) x = OpeningsKept x
NetKept (Some (Keeps sessions)) x = OpeningsKept x
NetKept (Some (Carries rounds)) x = CallsKept x

-- A command with a good input is done, unless memory runs out, the source fails or the sink does, or the wire or the disk of a command that uses it, or
-- what a courier hears is no reply.
abbrev pub IsDoneOrStopped : Option Command → Status → Type 0
IsDoneOrStopped command status =
    (status ≡ Done) ⊎ (status ≡ NoMemory) ⊎ (status ≡ ReadFault) ⊎ (status ≡ WriteFault)
    ⊎ ((status ≡ NetFault) × (uses_wire command ≡ true)) ⊎ (IsJournalStop status × (uses_disk command ≡ true)) ⊎ ((status ≡ BadReply) × (carries command ≡ true))

-- the node of this role makes a text of the input and of the wire, and that text has P
abbrev pub WritesServing : (name : List ℕ) → (sessions : ℕ) → Wired → List ℕ → (List ℕ → Type 0) → Type 0
WritesServing name sessions x input P = (text : List ℕ) × IsServingOutputOf name sessions x input (Writes text) × P text

-- and so does its kept node, of the wire and the disk
abbrev pub WritesKeeping : (name : List ℕ) → (sessions : ℕ) → Devices → List ℕ → (List ℕ → Type 0) → Type 0
WritesKeeping name sessions x input P = (text : List ℕ) × IsKeepingOutputOf name sessions x input (Writes text) × P text

-- and so does a courier, of the wire
abbrev pub WritesCarrying : (rounds : ℕ) → Wired → List ℕ → (List ℕ → Type 0) → Type 0
WritesCarrying rounds x input P = (text : List ℕ) × IsCarryingOutputOf rounds x input (Writes text) × P text
