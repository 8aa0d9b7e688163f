-- What follows from a reply.
use Rattle.std.proofs.Common.{◌≡◌, ℕ, Bool, List, Some, None, sym, ap, ◌∙◌, subst, inl, inr, true, false, refl, IfSome, IfOk, IfErr}
use Rattle.std.specs.Prelude.{◌⊎◌}
use Rattle.std.specs.declared.option.Option.{Option}
use Rattle.std.specs.declared.result.Result.{Result}
use Rattle.aw_run.specs.declared.words.Command.{Command}
use Rattle.aw_run.specs.declared.words.Command.TheVariants.{Reads, Tries, Serves, Keeps, Carries}
use Rattle.aw_run.specs.declared.words.Job.{Job}
use Rattle.aw_front.specs.declared.reply.Reply.{Reply}
use Rattle.aw_front.specs.declared.reply.Status.{Status}
use Rattle.aw_front.specs.declared.reply.Status.TheVariants.{Done, WriteFault, BadReply}
use Rattle.aw_run.specs.Words.{command_of, role_word}
use Rattle.aw_front.specs.Output.{Output, Writes, PastInputLimit, BadSpecification, BadTypes, IsCircular, UnknownRole, BadSchedule, PastOutputLimit, NoReplyOf}
use Rattle.aw_run.specs.Output.{IsOutputOf}
use Rattle.aw_run.specs.Replies.{ForInput, Devices, Wired, around, wired_in, carries, WritesCarrying, EndsWith, IsDoneOrStopped, uses_wire, WritesSome}
use Rattle.aw_run.specs.Replies.{IsGood, Says, SaysAs, WritesServing, WritesKeeping}
use Rattle.aw_front.specs.Replies.{Replies, reply, reply_with}
use Rattle.aw_out.specs.declared.edge.Wire as wires
use Rattle.aw_disk.specs.declared.edge.Disk as disks
use Rattle.aw_run.specs.Serving.{IsServingOutputOf}
use Rattle.aw_run.specs.Unserved.{StopsServing}
use Rattle.aw_run.specs.Keeping.{IsKeepingOutputOf, StopsKeeping}
use Rattle.aw_run.specs.Carrying.{IsCarryingOutputOf, StopsCarrying}
use Rattle.aw_run.specs.Trials.{trial_output, trial_text}
use Rattle.aw_run.proofs.TrialOutputs.{of-trial}
use Rattle.aw_run.specs.Laws.{HasOneReply}
use Rattle.aw_run.proofs.GoodServed.{served-done, kept-done, carried-done}
use Rattle.aw_run.proofs.OneOutputs.{one-output}
use Rattle.aw_run.proofs.Promising.{Fact, one-promise}
use Rattle.aw_run.specs.Promises.{Promises, RepliesKeeping, WritesWith}
use Rattle.aw_run.specs.declared.words.Job.TheVariants.{Tells}
use Rattle.aw_run.specs.declared.words.Telling.{Telling}
use Rattle.aw_sched.specs.Events.{Event}
use Rattle.aw_term.specs.Artifacts.{Words}
use Rattle.aw_term.specs.Rules.{Grammar}
use Rattle.aw_typed.specs.Types.{Types}

-- a reply that is done has the text of its output
replies-done : (P : Output → Type 0) (said : Reply) (Q : List ℕ → Type 0) (output : Output) → P output → said ≡ reply_with output →
    said.status ≡ Done → Q said.text → (text : List ℕ) × P (Writes text) × Q text
replies-done P said Q (Writes text) holds is done text_has = let e : said.text ≡ text = cc (is) in (text, holds, subst Q e text_has)
replies-done P said Q PastInputLimit holds is done text_has = absurd (cc (is, done))
replies-done P said Q (BadSpecification why) holds is done text_has = absurd (cc (is, done))
replies-done P said Q (BadTypes why) holds is done text_has = absurd (cc (is, done))
replies-done P said Q (IsCircular why) holds is done text_has = absurd (cc (is, done))
replies-done P said Q UnknownRole holds is done text_has = absurd (cc (is, done))
replies-done P said Q (BadSchedule why) holds is done text_has = absurd (cc (is, done))
replies-done P said Q PastOutputLimit holds is done text_has = absurd (cc (is, done))
replies-done P said Q (NoReplyOf role) holds is done text_has = absurd (cc (is, done))

-- the same for what was left to read
pub input-done : (left : Option (List ℕ)) (job : Job) (said : Reply) (Q : List ℕ → Type 0) →
    ForInput left (λ input. Replies (IsOutputOf job input) said) → said.status ≡ Done → Q said.text → ForInput left (λ input. WritesSome job input Q)
input-done None job said Q says done text_has = (says.0, replies-done (IsOutputOf job says.0) said Q says.1.0 says.1.1 says.1.2 done text_has)
input-done (Some input) job said Q says done text_has = replies-done (IsOutputOf job input) said Q says.0 says.1 says.2 done text_has

-- the same of a run that was told to do the job
as-job : (left : Option (List ℕ)) (job : Job) (command : Option Command) (words : List (List ℕ)) (devices : Devices) (said : Reply)
    (Q : List ℕ → Type 0) → ForInput left (λ input. SaysAs command words input devices said) →
    command ≡ Some (Reads job) → said.status ≡ Done → Q said.text → ForInput left (λ input. WritesSome job input Q)
as-job left job command words devices said Q says is = input-done left job said Q (subst (λ (c : Option Command). ForInput left (λ input. SaysAs c words input devices said)) is says)

pub Says-job : (left : Option (List ℕ)) (job : Job) (words : List (List ℕ)) (devices : Devices) (said : Reply) (Q : List ℕ → Type 0) → ForInput left (λ input. Says words input devices said) →
    command_of words ≡ Some (Reads job) → said.status ≡ Done → Q said.text → ForInput left (λ input. WritesSome job input Q)
Says-job left job words = as-job left job (command_of words) words

-- the same for what P makes of what was left to read
input-replied : (left : Option (List ℕ)) (P : List ℕ → Output → Type 0) (said : Reply) (Q : List ℕ → Type 0) → ForInput left (λ input. Replies (P input) said) →
    said.status ≡ Done → Q said.text → ForInput left (λ input. (text : List ℕ) × P input (Writes text) × Q text)
input-replied None P said Q says done text_has = (says.0, replies-done (P says.0) said Q says.1.0 says.1.1 says.1.2 done text_has)
input-replied (Some input) P said Q says done text_has = replies-done (P input) said Q says.0 says.1 says.2 done text_has

-- for a node
as-node : (left : Option (List ℕ)) (sessions : ℕ) (command : Option Command) (words : List (List ℕ)) (devices : Devices) (said : Reply)
    (Q : List ℕ → Type 0) → ForInput left (λ input. SaysAs command words input devices said) →
    command ≡ Some (Serves sessions) → said.status ≡ Done → Q said.text → ForInput left (λ input. WritesServing (role_word words) sessions (wired_in devices) input Q)
as-node left sessions command words devices said Q says is =
    input-replied left (IsServingOutputOf (role_word words) sessions (wired_in devices)) said Q (subst (λ (c : Option Command). ForInput left (λ input. SaysAs c words input devices said)) is says)

pub Says-node : (left : Option (List ℕ)) (sessions : ℕ) (words : List (List ℕ)) (devices : Devices) (said : Reply) (Q : List ℕ → Type 0) → ForInput left (λ input. Says words input devices said) →
    command_of words ≡ Some (Serves sessions) → said.status ≡ Done → Q said.text → ForInput left (λ input. WritesServing (role_word words) sessions (wired_in devices) input Q)
Says-node left sessions words = as-node left sessions (command_of words) words

-- for a kept one
as-kept : (left : Option (List ℕ)) (sessions : ℕ) (command : Option Command) (words : List (List ℕ)) (devices : Devices) (said : Reply)
    (Q : List ℕ → Type 0) → ForInput left (λ input. SaysAs command words input devices said) →
    command ≡ Some (Keeps sessions) → said.status ≡ Done → Q said.text → ForInput left (λ input. WritesKeeping (role_word words) sessions devices input Q)
as-kept left sessions command words devices said Q says is =
    input-replied left (IsKeepingOutputOf (role_word words) sessions devices) said Q (subst (λ (c : Option Command). ForInput left (λ input. SaysAs c words input devices said)) is says)

pub Says-kept-node : (left : Option (List ℕ)) (sessions : ℕ) (words : List (List ℕ)) (devices : Devices) (said : Reply) (Q : List ℕ → Type 0) → ForInput left (λ input. Says words input devices said) →
    command_of words ≡ Some (Keeps sessions) → said.status ≡ Done → Q said.text → ForInput left (λ input. WritesKeeping (role_word words) sessions devices input Q)
Says-kept-node left sessions words = as-kept left sessions (command_of words) words

-- for a courier
as-carried : (left : Option (List ℕ)) (rounds : ℕ) (command : Option Command) (words : List (List ℕ)) (devices : Devices) (said : Reply)
    (Q : List ℕ → Type 0) → ForInput left (λ input. SaysAs command words input devices said) →
    command ≡ Some (Carries rounds) → said.status ≡ Done → Q said.text → ForInput left (λ input. WritesCarrying rounds (wired_in devices) input Q)
as-carried left rounds command words devices said Q says is =
    input-replied left (IsCarryingOutputOf rounds (wired_in devices)) said Q (subst (λ (c : Option Command). ForInput left (λ input. SaysAs c words input devices said)) is says)

pub Says-carried : (left : Option (List ℕ)) (rounds : ℕ) (words : List (List ℕ)) (devices : Devices) (said : Reply) (Q : List ℕ → Type 0) → ForInput left (λ input. Says words input devices said) →
    command_of words ≡ Some (Carries rounds) → said.status ≡ Done → Q said.text → ForInput left (λ input. WritesCarrying rounds (wired_in devices) input Q)
Says-carried left rounds words = as-carried left rounds (command_of words) words

-- the same for a trial
as-trial : (left : Option (List ℕ)) (number : ℕ) (command : Option Command) (words : List (List ℕ)) (devices : Devices) (said : Reply) →
    ForInput left (λ input. SaysAs command words input devices said) →
    command ≡ Some (Tries number) → said ≡ reply_with (trial_output number)
as-trial None number command words devices said says is = subst (λ (c : Option Command). SaysAs c words says.0 devices said) is says.1
as-trial (Some input) number command words devices said says is = subst (λ (c : Option Command). SaysAs c words input devices said) is says

pub Says-trial : (left : Option (List ℕ)) (number : ℕ) (words : List (List ℕ)) (devices : Devices) (said : Reply) (Q : List ℕ → Type 0) → ForInput left (λ input. Says words input devices said) →
    command_of words ≡ Some (Tries number) → said.status ≡ Done → Q said.text → Q (trial_text number)
Says-trial left number words devices said Q says is = of-trial number said Q (as-trial left number (command_of words) words devices said says is)

-- a trial is told whatever was left to read
pub for-any : (left : Option (List ℕ)) (words : List (List ℕ)) (devices : Devices) (number : ℕ) (input : List ℕ) (said : Reply) →
    command_of words ≡ Some (Tries number) → said ≡ reply_with (trial_output number) → ForInput left (λ input. Says words input devices said)
for-any None words devices number input said spelled is = (input, subst (λ (c : Option Command). SaysAs c words input devices said) (sym spelled) is)
for-any (Some other) words devices number input said spelled is = subst (λ (c : Option Command). SaysAs c words other devices said) (sym spelled) is

-- there is one reply
one-as : (command : Option Command) (words : List (List ℕ)) (input : List ℕ) (devices : Devices) (a b : Reply) → uses_wire command ≡ false →
    SaysAs command words input devices a → SaysAs command words input devices b → a ≡ b
one-as None words input devices a b unwired says also = says ∙ sym also
one-as (Some (Reads job)) words input devices a b unwired says also = says.2 ∙ ap reply_with (one-output job input says.0 also.0 says.1 also.1) ∙ sym also.2
one-as (Some (Tries number)) words input devices a b unwired says also = says ∙ sym also
one-as (Some (Serves sessions)) words input devices a b unwired says also = absurd (cc (unwired))
one-as (Some (Keeps sessions)) words input devices a b unwired says also = absurd (cc (unwired))
one-as (Some (Carries rounds)) words input devices a b unwired says also = absurd (cc (unwired))

pub one-reply : {W D : Type 0} (w : wires.Ghosts W) (d : disks.Ghosts D) → HasOneReply w d
one-reply w d words input u v old new a b unwired undisked = one-as (command_of words) words input (around w d u v old new) a b unwired

-- words that make a text of the input tell that they are done, or a courier that it heard no reply
abbrev pub IsDoneOrUnheard : Option Command → Reply → Type 0
IsDoneOrUnheard command said = (said.status ≡ Done) ⊎ ((said.status ≡ BadReply) × (carries command ≡ true))

unheard : (rounds : ℕ) (said : Reply) → (said.status ≡ Done) ⊎ (said.status ≡ BadReply) → IsDoneOrUnheard (Some (Carries rounds)) said
unheard rounds said (inl done) = inl done
unheard rounds said (inr bad) = inr (bad, refl)

good-as : (command : Option Command) (words : List (List ℕ)) (input : List ℕ) (devices : Devices) (said : Reply) (text : List ℕ) →
    SaysAs command words input devices said → SaysAs command words input devices (reply Done text) → IsDoneOrUnheard command said
good-as None words input devices said text says good = inl (ap (λ (r : Reply). r.status) (one-as None words input devices said (reply Done text) refl says good))
good-as (Some (Reads job)) words input devices said text says good = inl (ap (λ (r : Reply). r.status) (one-as (Some (Reads job)) words input devices said (reply Done text) refl says good))
good-as (Some (Tries number)) words input devices said text says good = inl (ap (λ (r : Reply). r.status) (one-as (Some (Tries number)) words input devices said (reply Done text) refl says good))
good-as (Some (Serves sessions)) words input devices said text says good = inl (served-done (role_word words) sessions (wired_in devices) input said text says good)
good-as (Some (Keeps sessions)) words input devices said text says good = inl (kept-done (role_word words) sessions devices input said text says good)
good-as (Some (Carries rounds)) words input devices said text says good = unheard rounds said (carried-done rounds (wired_in devices) input said text says good)

good-done : (words : List (List ℕ)) (input : List ℕ) (devices : Devices) (said : Reply) → Says words input devices said → IsGood words input devices → IsDoneOrUnheard (command_of words) said
good-done words input devices said says good = good-as (command_of words) words input devices said good.0 says good.1

-- told by the status of the run
told-good : (command : Option Command) (said : Reply) (told : Status) → told ≡ said.status → IsDoneOrUnheard command said → IsDoneOrStopped command told
told-good command said told is (inl done) = inl (is ∙ done)
told-good command said told is (inr (bad, carried)) = inr (inr (inr (inr (inr (inr (is ∙ bad, carried))))))

-- the status that is told follows from the words and the bytes
pub Says-cause : (left : Option (List ℕ)) (words : List (List ℕ)) (devices : Devices) (said : Reply) (told : Status) →
    ForInput left (λ input. Says words input devices said) → told ≡ said.status → ForInput left (λ input. EndsWith words input devices told)
Says-cause None words devices said told says is = (says.0, (said, says.1, is))
Says-cause (Some input) words devices said told says is = (said, says, is)

-- where the input is good and the source tells it, the run is done, or the sink failed
pub Says-complete : (left : Option (List ℕ)) (words : List (List ℕ)) (devices : Devices) (said : Reply) (told : Status) →
    ForInput left (λ input. Says words input devices said) → (told ≡ said.status) ⊎ (told ≡ WriteFault) →
    IfSome left (λ input. IsGood words input devices → IsDoneOrStopped (command_of words) told)
Says-complete None words devices said told says ends_so = tt
Says-complete (Some input) words devices said told says (inl is) = λ good. told-good (command_of words) said told is (good-done words input devices said says good)
Says-complete (Some input) words devices said told says (inr failed) = λ good. inr (inr (inr (inl failed)))

-- what a command replies that was told to do a job is a reply of the words that spell it
pub replies-read : {E : Type 0} (result : Result Reply E) (left : Option (List ℕ)) (words : List (List ℕ)) (devices : Devices) (job : Job) → command_of words ≡ Some (Reads job) →
    IfOk result (λ said. ForInput left (λ input. Replies (IsOutputOf job input) said)) → IfOk result (λ said. ForInput left (λ input. Says words input devices said))
replies-read result left words devices job spelled replies =
    subst (λ (c : Option Command). IfOk result (λ said. ForInput left (λ input. SaysAs c words input devices said))) (sym spelled) replies

-- and so is what a node replies
pub replies-node : {E : Type 0} (result : Result Reply E) (left : Option (List ℕ)) (words : List (List ℕ)) (devices : Devices) (name : List ℕ)
    (sessions : ℕ) → name ≡ role_word words → command_of words ≡ Some (Serves sessions) →
    IfOk result (λ said. ForInput left (λ input. Replies (IsServingOutputOf name sessions (wired_in devices) input) said)) →
    IfOk result (λ said. ForInput left (λ input. Says words input devices said))
replies-node result left words devices name sessions named spelled replies =
    subst (λ (c : Option Command). IfOk result (λ said. ForInput left (λ input. SaysAs c words input devices said))) (sym spelled)
    (subst (λ n. IfOk result (λ said. ForInput left (λ input. Replies (IsServingOutputOf n sessions (wired_in devices) input) said))) named replies)

-- and what a kept one does
pub replies-kept : {E : Type 0} (result : Result Reply E) (left : Option (List ℕ)) (words : List (List ℕ)) (devices : Devices) (name : List ℕ)
    (sessions : ℕ) → name ≡ role_word words → command_of words ≡ Some (Keeps sessions) →
    IfOk result (λ said. ForInput left (λ input. Replies (IsKeepingOutputOf name sessions devices input) said)) → IfOk result (λ said. ForInput left (λ input. Says words input devices said))
replies-kept result left words devices name sessions named spelled replies =
    subst (λ (c : Option Command). IfOk result (λ said. ForInput left (λ input. SaysAs c words input devices said))) (sym spelled)
    (subst (λ n. IfOk result (λ said. ForInput left (λ input. Replies (IsKeepingOutputOf n sessions devices input) said))) named replies)

-- and what a courier does
pub replies-carried : {E : Type 0} (result : Result Reply E) (left : Option (List ℕ)) (words : List (List ℕ)) (devices : Devices) (rounds : ℕ) → command_of words ≡ Some (Carries rounds) →
    IfOk result (λ said. ForInput left (λ input. Replies (IsCarryingOutputOf rounds (wired_in devices) input) said)) → IfOk result (λ said. ForInput left (λ input. Says words input devices said))
replies-carried result left words devices rounds spelled replies =
    subst (λ (c : Option Command). IfOk result (λ said. ForInput left (λ input. SaysAs c words input devices said))) (sym spelled) replies

-- the same rounds are those of the words
pub stops-carried : {E : Type 0} (result : Result Reply E) (status_of : E → Status) (left : Option (List ℕ)) (words : List (List ℕ)) (x : Wired)
    (m n : ℕ) → command_of words ≡ Some (Carries m) → command_of words ≡ Some (Carries n) →
    IfErr result (λ stop. ForInput left (λ input. StopsCarrying m x input (status_of stop))) → IfErr result (λ stop. ForInput left (λ input. StopsCarrying n x input (status_of stop)))
stops-carried result status_of left words x m n spelled also stops =
    let same : m ≡ n = cc (spelled, also) in
    subst (λ k. IfErr result (λ stop. ForInput left (λ input. StopsCarrying k x input (status_of stop)))) same stops

-- the same sessions are those of the words
pub stops-served : {E : Type 0} (result : Result Reply E) (status_of : E → Status) (left : Option (List ℕ)) (words : List (List ℕ)) (x : Wired)
    (name : List ℕ) (m n : ℕ) → name ≡ role_word words → command_of words ≡ Some (Serves m) → command_of words ≡ Some (Serves n) →
    IfErr result (λ stop. ForInput left (λ input. StopsServing name m x input (status_of stop))) →
    IfErr result (λ stop. ForInput left (λ input. StopsServing (role_word words) n x input (status_of stop)))
stops-served result status_of left words x name m n named spelled also stops =
    let same : m ≡ n = cc (spelled, also) in
    subst (λ k. IfErr result (λ stop. ForInput left (λ input. StopsServing (role_word words) k x input (status_of stop)))) same
    (subst (λ y. IfErr result (λ stop. ForInput left (λ input. StopsServing y m x input (status_of stop)))) named stops)

-- and of a kept node
pub stops-kept : {E : Type 0} (result : Result Reply E) (status_of : E → Status) (left : Option (List ℕ)) (words : List (List ℕ)) (devices : Devices)
    (name : List ℕ) (m n : ℕ) → name ≡ role_word words → command_of words ≡ Some (Keeps m) → command_of words ≡ Some (Keeps n) →
    IfErr result (λ stop. ForInput left (λ input. StopsKeeping name m devices input (status_of stop))) →
    IfErr result (λ stop. ForInput left (λ input. StopsKeeping (role_word words) n devices input (status_of stop)))
stops-kept result status_of left words devices name m n named spelled also stops =
    let same : m ≡ n = cc (spelled, also) in
    subst (λ k. IfErr result (λ stop. ForInput left (λ input. StopsKeeping (role_word words) k devices input (status_of stop)))) same
    (subst (λ x. IfErr result (λ stop. ForInput left (λ input. StopsKeeping x m devices input (status_of stop)))) named stops)

-- a reply that is done and keeps the promises has the text of its output, and each promise holds
promises-done : (F : Fact) → ((t : Types) (w : Words) (g : Grammar) (loads : Bool) (es : List Event) → Promises t w g loads es → F t w g loads es) →
    (telling : Telling) (input : List ℕ) (said : Reply) (Q : List ℕ → Type 0) →
    RepliesKeeping (Tells telling) input said → said.status ≡ Done → Q said.text → WritesWith F (Tells telling) input Q
promises-done F one telling input said Q kept done text_has =
    (replies-done (IsOutputOf (Tells telling) input) said Q kept.0.0 kept.0.1 kept.0.2 done text_has, one-promise F one input (kept.1 done))

pub Says-kept : (F : Fact) → ((t : Types) (w : Words) (g : Grammar) (loads : Bool) (es : List Event) → Promises t w g loads es → F t w g loads es) →
    (left : Option (List ℕ)) (telling : Telling) (said : Reply) (Q : List ℕ → Type 0) →
    ForInput left (λ input. RepliesKeeping (Tells telling) input said) → said.status ≡ Done → Q said.text → ForInput left (λ input. WritesWith F (Tells telling) input Q)
Says-kept F one None telling said Q kept done text_has = (kept.0, promises-done F one telling kept.0 said Q kept.1 done text_has)
Says-kept F one (Some input) telling said Q kept done text_has = promises-done F one telling input said Q kept done text_has

-- what is told was said, or the sink failed
pub done-said : (said told : Status) → (told ≡ said) ⊎ (told ≡ WriteFault) → told ≡ Done → said ≡ Done
done-said said told (inl is) done = sym is ∙ done
done-said said told (inr failed) done = absurd (cc (failed, done))
