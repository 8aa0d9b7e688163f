-- What is said of one run of the program.
use Rattle.std.specs.Prelude.{◌≡◌, ◌≢◌, ℕ, Bool, List, [], ◌∷◌, codes, Option, Some, Result, IfErr, IfSome}
use Rattle.aw_out.specs.Edge.{Gets, GetsPrefix}
use Rattle.aw_term.specs.Artifacts.{Words}
use Rattle.aw_term.specs.Rules.{Grammar}
use Rattle.aw_typed.specs.Types.{Types}
use Rattle.aw_sched.specs.Events.{Event}
use Rattle.aw_front.specs.declared.reply.Reply.{Reply}
use Rattle.aw_front.specs.declared.reply.Status.{Status}
use Rattle.aw_front.specs.declared.reply.Status.TheVariants.{Done, WriteFault}
use Rattle.aw_run.specs.declared.words.Command.{Command}
use Rattle.aw_run.specs.declared.words.Command.TheVariants.{Reads, Tries, Serves, Keeps, Carries}
use Rattle.aw_run.specs.declared.words.Job.{Job}
use Rattle.aw_run.specs.declared.reply.Stop.{Stop}
use Rattle.aw_run.specs.Words.{command_of, role_word}
use Rattle.aw_run.specs.OfInputs.{ForInput, WritesSome}
use Rattle.aw_run.specs.Statuses.{IsReply, IsStop, status_of_stop}
use Rattle.aw_run.specs.Devices.{Devices, Wired}
use Rattle.aw_run.specs.Replies.{EndsWith, IsDoneOrStopped, IsGood, Says, SomeReply, WritesCarrying, WritesKeeping, WritesServing}
use Rattle.aw_run.specs.Carrying.{StopsCarrying}
use Rattle.aw_run.specs.Keeping.{StopsKeeping}
use Rattle.aw_run.specs.Unserved.{StopsServing}
use Rattle.aw_run.specs.Trials.{trial_text}
use Rattle.aw_run.specs.Promises.{RepliesKeeping, ReplaysWith, WritesWith}

-- One run: the words that it was asked by, what was left to read, how it ended, and what the sink had been written before it and after it.
pub record Run : Type 0 where
  pub words : List (List ℕ)
  pub left : Option (List ℕ)
  pub status : Status
  pub before : Option (List ℕ)
  pub after : Option (List ℕ)

-- the run that was asked by these words, with this left to read, ended so, and found and left this written
abbrev pub ran : List (List ℕ) → Option (List ℕ) → Status → Option (List ℕ) → Option (List ℕ) → Run
ran words left status before after = record { words = words; left = left; status = status; before = before; after = after }

-- it wrote this text
abbrev pub HasWritten : Run → List ℕ → Type 0
HasWritten r = Gets r.before r.after

-- where it was asked for this command and is done, its input has P
abbrev pub IfDone : Command → Run → (List ℕ → Type 0) → Type 0
IfDone command r P = command_of r.words ≡ Some command → r.status ≡ Done → ForInput r.left P

-- where it was asked for this command and was stopped, its input has P
abbrev pub IfStopped : Command → Run → (List ℕ → Type 0) → Type 0
IfStopped command r P = command_of r.words ≡ Some command → IsStop r.status → ForInput r.left P

-- It gave this reply: it ended with the reply's status, and wrote the reply's text.
pub record Replied (said : Reply) (r : Run) : Type 0 where
  pub told : r.status ≡ said.status
  pub written : HasWritten r said.text

-- A run that was not stopped gave a reply that its words and its input call for.
abbrev pub Answered : Run → Devices → Type 0
Answered r x = IsReply r.status → ForInput r.left (λ input. SomeReply r.words input x (λ said. Replied said r))

-- And it ended with just the status that they call for.
abbrev pub EndedAsAsked : Run → Devices → Type 0
EndedAsAsked r x = IsReply r.status → ForInput r.left (λ input. EndsWith r.words input x r.status)

-- With a good input it is done, unless memory ran out, or something failed that its command uses.
abbrev pub Completed : Run → Devices → Type 0
Completed r x = IfSome r.left (λ input. IsGood r.words input x → IsDoneOrStopped (command_of r.words) r.status)

-- Where the sink failed, it wrote a prefix of the text of a reply that its words and its input call for; that text is not empty.
abbrev pub CutOff : Run → Devices → Type 0
CutOff r x = r.status ≡ WriteFault → ForInput r.left (λ input. SomeReply r.words input x (λ said. (said.text ≢ []) × GetsPrefix r.before r.after said.text))

-- A run that is done and does the job has written the text that the job makes of its input.
abbrev pub Wrote : Job → Run → Type 0
Wrote job r = IfDone (Reads job) r (λ input. WritesSome job input (HasWritten r))

-- And of the events that its input spells F holds.
abbrev pub WroteWith : Job → (Types → Words → Grammar → Bool → List Event → Type 0) → Run → Type 0
WroteWith job F r = IfDone (Reads job) r (λ input. WritesWith F job input (HasWritten r))

-- A replay that is done has written the output of the events that its input spells, and of these F holds. The word `replay` asks for it.
abbrev pub Replayed : (Types → Words → Grammar → Bool → List Event → Type 0) → Run → Type 0
Replayed F r = r.words ≡ codes "replay" ∷ [] → r.status ≡ Done → ForInput r.left (λ input. ReplaysWith F input (HasWritten r))

-- A trial that is done has written its summary.
abbrev pub Tried : Run → Type 0
Tried r = (n : ℕ) → command_of r.words ≡ Some (Tries n) → r.status ≡ Done → HasWritten r (trial_text n)

-- A plain node that is done has served its sessions, and written of them.
abbrev pub Served : Run → Wired → Type 0
Served r x = (n : ℕ) → IfDone (Serves n) r (λ input. WritesServing (role_word r.words) n x input (HasWritten r))

-- Why a plain node was stopped, and what it served until then.
abbrev pub ServingStopped : Run → Wired → Type 0
ServingStopped r x = (n : ℕ) → IfStopped (Serves n) r (λ input. StopsServing (role_word r.words) n x input r.status)

-- A kept node that is done has served its sessions, kept its events, and written of the sessions.
abbrev pub ServedKept : Run → Devices → Type 0
ServedKept r x = (n : ℕ) → IfDone (Keeps n) r (λ input. WritesKeeping (role_word r.words) n x input (HasWritten r))

-- Why a kept node was stopped, and what it served and kept until then.
abbrev pub KeepingStopped : Run → Devices → Type 0
KeepingStopped r x = (n : ℕ) → IfStopped (Keeps n) r (λ input. StopsKeeping (role_word r.words) n x input r.status)

-- A courier that is done has carried what there was, and written how that ended.
abbrev pub CarriedAll : Run → Wired → Type 0
CarriedAll r x = (n : ℕ) → IfDone (Carries n) r (λ input. WritesCarrying n x input (HasWritten r))

-- Why a courier was stopped, and what it carried until then.
abbrev pub CarryingStopped : Run → Wired → Type 0
CarryingStopped r x = (n : ℕ) → IfStopped (Carries n) r (λ input. StopsCarrying n x input r.status)

-- Before anything is written, of these words and of what was left to read:

-- a run may say this reply
abbrev pub MaySay : List (List ℕ) → Option (List ℕ) → Devices → Reply → Type 0
MaySay words left x said = ForInput left (λ input. Says words input x said)

-- where the words ask for a job, the reply is one of that job to the input, and keeps the promises
abbrev pub KeepsPromises : List (List ℕ) → Option (List ℕ) → Reply → Type 0
KeepsPromises words left said = (job : Job) → command_of words ≡ Some (Reads job) → ForInput left (λ input. RepliesKeeping job input said)

-- where they ask for a plain node, an error says why it was stopped
abbrev pub NodeFails : List (List ℕ) → Option (List ℕ) → Wired → Result Reply Stop → Type 0
NodeFails words left x result = (n : ℕ) → command_of words ≡ Some (Serves n) →
    IfErr result (λ stop. ForInput left (λ input. StopsServing (role_word words) n x input (status_of_stop stop)))

-- where they ask for a kept node, an error says why it was stopped
abbrev pub KeptNodeFails : List (List ℕ) → Option (List ℕ) → Devices → Result Reply Stop → Type 0
KeptNodeFails words left x result = (n : ℕ) → command_of words ≡ Some (Keeps n) →
    IfErr result (λ stop. ForInput left (λ input. StopsKeeping (role_word words) n x input (status_of_stop stop)))

-- where they ask for a courier, an error says why it was stopped
abbrev pub CourierFails : List (List ℕ) → Option (List ℕ) → Wired → Result Reply Stop → Type 0
CourierFails words left x result = (n : ℕ) → command_of words ≡ Some (Carries n) →
    IfErr result (λ stop. ForInput left (λ input. StopsCarrying n x input (status_of_stop stop)))
