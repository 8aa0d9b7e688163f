-- What holds of outputs, apart from any code.
use Rattle.std.specs.Prelude.{◌≡◌, ℕ, Bool, true, false, List, map}
use Rattle.aw_term.specs.Rules.{Grammar}
use Rattle.aw_term.specs.Choices.{Choice}
use Rattle.aw_term.specs.Artifacts.{Words}
use Rattle.aw_term.specs.WellFormed.{Each}
use Rattle.aw_base.specs.ChoiceFits.{choice_ok}
use Rattle.aw_sched.specs.Events.{Chooses}
use Rattle.aw_out.specs.declared.edge.Wire as wires
use Rattle.aw_disk.specs.declared.edge.Disk as disks
use Rattle.aw_run.specs.declared.words.Job.{Job}
use Rattle.aw_run.specs.declared.words.Telling.TheVariants.{Undivided, Replayed}
use Rattle.aw_front.specs.declared.reply.Reply.{Reply}
use Rattle.aw_front.specs.Output.{Output}
use Rattle.aw_run.specs.Output.{IsOutputOf, told}
use Rattle.aw_run.specs.Words.{command_of}
use Rattle.aw_run.specs.Replies.{around, Says, uses_wire, uses_disk}

-- Choices alone are told of one role just as the undivided run tells them.
abbrev pub TellsUndivided : Words → Grammar → Type 0
TellsUndivided w g = g.roles ≡ 1 → (loads : Bool) (choices : List Choice) → Each (λ x. choice_ok g x ≡ true) choices →
    told Replayed w g loads (map Chooses choices) ≡ told Undivided w g loads (map Chooses choices)

-- An input has one output for each job.
abbrev pub HasOneOutput : Type 0
HasOneOutput = (job : Job) (input : List ℕ) (a b : Output) → IsOutputOf job input a → IsOutputOf job input b → a ≡ b

-- There is one reply to words and an input, where the command uses neither the wire nor the disk.
abbrev pub HasOneReply : {W D : Type 0} → wires.Ghosts W → disks.Ghosts D → Type 0
HasOneReply {W} {D} w d = (words : List (List ℕ)) (input : List ℕ) (u v : W) (old new : D) (a b : Reply) →
    uses_wire (command_of words) ≡ false → uses_disk (command_of words) ≡ false →
    Says words input (around w d u v old new) a → Says words input (around w d u v old new) b → a ≡ b
