-- What holds of the input of a run, and the text that a job makes of it.
use Rattle.std.specs.Prelude.{ℕ, List, Option, Some, None}
use Rattle.aw_run.specs.declared.words.Job.{Job}
use Rattle.aw_front.specs.Output.{Output, Writes}
use Rattle.aw_front.specs.Replies.{Replies}
use Rattle.aw_front.specs.declared.reply.Reply.{Reply}
use Rattle.aw_front.specs.declared.reply.Status.{Status}
use Rattle.aw_run.specs.declared.reply.Stop.{Stop}
use Rattle.aw_run.specs.Statuses.{status_of_stop}
use Rattle.aw_run.specs.Output.{IsOutputOf}

-- where the source tells what is left, that input has P, and otherwise some input has
abbrev pub ForInput : Option (List ℕ) → (List ℕ → Type 0) → Type 0
ForInput None P = (input : List ℕ) × P input
ForInput (Some input) P = P input

-- the job makes a text of the input, and that text has P
abbrev pub WritesSome : Job → List ℕ → (List ℕ → Type 0) → Type 0
WritesSome j input P = (text : List ℕ) × IsOutputOf j input (Writes text) × P text

-- this is a reply to what was left to read, by what P makes of an input
abbrev pub RepliesTo : Option (List ℕ) → (List ℕ → Output → Type 0) → Reply → Type 0
RepliesTo left P said = ForInput left (λ input. Replies (P input) said)

-- the status that reports this stop has P
abbrev pub StopsBy : (Status → Type 0) → Stop → Type 0
StopsBy P stop = P (status_of_stop stop)

-- what was left to read, and the status that reports this stop, have P
abbrev pub StopsFor : Option (List ℕ) → (List ℕ → Status → Type 0) → Stop → Type 0
StopsFor left P stop = ForInput left (λ input. P input (status_of_stop stop))
