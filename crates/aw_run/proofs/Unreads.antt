-- What is said of a source that was not read to its end.
use Rattle.std.proofs.Common.{◌≡◌, ℕ, ◌+◌, ◌<◌, List, ◌++◌, length, [], None, Some, IfOk, IfErr, inl, inr, refl, ap, ◌∙◌, arith, length-append}
use Rattle.std.specs.declared.option.Option.{Option}
use Rattle.std.specs.declared.result.Result.{Result}
use Rattle.aw_out.specs.declared.error.ReadError.{ReadError}
use Rattle.aw_out.specs.declared.error.ReadError.TheVariants as fault
use Rattle.aw_out.specs.Edge.{GivesSome}
use Rattle.aw_front.specs.declared.limit.TheConstants.{INPUT_LIMIT}
use Rattle.aw_run.specs.declared.words.Job.{Job}
use Rattle.aw_front.specs.declared.reply.Reply.{Reply}
use Rattle.aw_run.specs.declared.reply.Stop.{Stop}
use Rattle.aw_run.specs.Devices.{Devices, Wired}
use Rattle.aw_front.specs.Output.{Output, PastInputLimit}
use Rattle.aw_run.specs.Output.{IsOutputOf}
use Rattle.aw_run.specs.Serving.{IsServingOutputOf}
use Rattle.aw_run.specs.Unserved.{StopsServing}
use Rattle.aw_run.specs.Keeping.{IsKeepingOutputOf, StopsKeeping}
use Rattle.aw_run.specs.Carrying.{IsCarryingOutputOf, StopsCarrying}
use Rattle.aw_run.specs.Statuses.{status_of_stop}
use Rattle.aw_run.specs.Replies.{ForInput}
use Rattle.aw_front.specs.Replies.{Replies, reply_with}
use Rattle.aw_run.specs.Promises.{RepliesKeeping}
use Rattle.aw_run.specs.Unread.{unread_gives}
use Rattle.aw_run.proofs.Outputs.{output-past}
use Rattle.aw_run.proofs.FrontOutputs.{served-past, kept-past, carried-past}

longer : (limit : ℕ) (input bytes rest : List ℕ) → input ≡ bytes ++ rest → limit < length bytes → limit < length input
longer limit input bytes rest same lt = let e : length input ≡ length bytes + length rest = ap length same ∙ length-append bytes rest in omega arith

-- more than the limit was left, and that has this output
past-limit : (P : List ℕ → Output → Type 0) → ((input : List ℕ) → INPUT_LIMIT < length input → P input PastInputLimit) →
    (old new : Option (List ℕ)) → GivesSome old new (λ bytes. INPUT_LIMIT < length bytes) → ForInput old (λ input. Replies (P input) (reply_with PastInputLimit))
past-limit P holds None new some = (some.0, (PastInputLimit, holds some.0 some.1, refl))
past-limit P holds (Some input) None some = let none : Some input ≡ None = some.2 in absurd (cc (none))
past-limit P holds (Some input) (Some rest) some =
    let e : Some input ≡ Some (some.0 ++ rest) = some.2 in
    let same : input ≡ some.0 ++ rest = cc in
    let more : INPUT_LIMIT < length input = longer INPUT_LIMIT input some.0 rest same some.1 in
    (PastInputLimit, holds input more, refl)

unread-as : (P : List ℕ → Output → Type 0) → ((input : List ℕ) → INPUT_LIMIT < length input → P input PastInputLimit) →
    (error : ReadError) (result : Result Reply Stop) (old new : Option (List ℕ)) → result ≡ unread_gives error →
    (error ≡ fault.TooLong → GivesSome old new (λ bytes. INPUT_LIMIT < length bytes)) → IfOk result (λ said. ForInput old (λ input. Replies (P input) said))
unread-as P holds fault.TooLong result old new is past = rw is (past-limit P holds old new (past refl))
unread-as P holds fault.ReadFault result old new is past = rw is tt
unread-as P holds fault.NoMemory result old new is past = rw is tt

-- and that is not done
not-done : (job : Job) (left : Option (List ℕ)) → ForInput left (λ input. Replies (IsOutputOf job input) (reply_with PastInputLimit)) →
    ForInput left (λ input. RepliesKeeping job input (reply_with PastInputLimit))
not-done job None is = (is.0, (is.1, λ done. absurd (cc (done))))
not-done job (Some input) is = (is, λ done. absurd (cc (done)))

pub unread-kept : (error : ReadError) (result : Result Reply Stop) (old new : Option (List ℕ)) (job : Job) → result ≡ unread_gives error →
    (error ≡ fault.TooLong → GivesSome old new (λ bytes. INPUT_LIMIT < length bytes)) →
    IfOk result (λ said. ForInput old (λ input. RepliesKeeping job input said))
unread-kept fault.TooLong result old new job is past = rw is (not-done job old (past-limit (IsOutputOf job) (output-past job) old new (past refl)))
unread-kept fault.ReadFault result old new job is past = rw is tt
unread-kept fault.NoMemory result old new job is past = rw is tt

pub unread-reply : (error : ReadError) (result : Result Reply Stop) (old new : Option (List ℕ)) (job : Job) → result ≡ unread_gives error →
    (error ≡ fault.TooLong → GivesSome old new (λ bytes. INPUT_LIMIT < length bytes)) →
    IfOk result (λ said. ForInput old (λ input. Replies (IsOutputOf job input) said))
unread-reply error result old new job = unread-as (IsOutputOf job) (output-past job) error result old new

-- the same of a node, which no session had yet
pub unread-served : (error : ReadError) (result : Result Reply Stop) (old new : Option (List ℕ)) (name : List ℕ) (sessions : ℕ) (x : Wired) → result ≡ unread_gives error →
    (error ≡ fault.TooLong → GivesSome old new (λ bytes. INPUT_LIMIT < length bytes)) → IfOk result (λ said. ForInput old (λ input. Replies (IsServingOutputOf name sessions x input) said))
unread-served error result old new name sessions x = unread-as (IsServingOutputOf name sessions x) (served-past name sessions x) error result old new

-- and of a kept one
pub unread-keeping : (error : ReadError) (result : Result Reply Stop) (old new : Option (List ℕ)) (name : List ℕ) (sessions : ℕ) (x : Devices) → result ≡ unread_gives error →
    (error ≡ fault.TooLong → GivesSome old new (λ bytes. INPUT_LIMIT < length bytes)) → IfOk result (λ said. ForInput old (λ input. Replies (IsKeepingOutputOf name sessions x input) said))
unread-keeping error result old new name sessions x = unread-as (IsKeepingOutputOf name sessions x) (kept-past name sessions x) error result old new

-- and of a courier
pub unread-carrying : (error : ReadError) (result : Result Reply Stop) (old new : Option (List ℕ)) (rounds : ℕ) (x : Wired) → result ≡ unread_gives error →
    (error ≡ fault.TooLong → GivesSome old new (λ bytes. INPUT_LIMIT < length bytes)) → IfOk result (λ said. ForInput old (λ input. Replies (IsCarryingOutputOf rounds x input) said))
unread-carrying error result old new rounds x = unread-as (IsCarryingOutputOf rounds x) (carried-past rounds x) error result old new

-- what holds of each input holds of what was left to read
pub for-each : (left : Option (List ℕ)) (P : List ℕ → Type 0) → ((input : List ℕ) → P input) → ForInput left P
for-each None P holds = ([], holds [])
for-each (Some input) P holds = holds input

-- a source that was not read stops a kept node before its devices are touched
pub unread-stops : (error : ReadError) (result : Result Reply Stop) (old : Option (List ℕ)) (name : List ℕ) (sessions : ℕ) (x : Devices) →
    x.wire_after ≡ x.wire_before → x.disk_after ≡ x.disk_before → result ≡ unread_gives error →
    IfErr result (λ stop. ForInput old (λ input. StopsKeeping name sessions x input (status_of_stop stop)))
unread-stops fault.TooLong result old name sessions x wire disk is = rw is tt
unread-stops fault.ReadFault result old name sessions x wire disk is = rw is (for-each old _ (λ input. inl (record { why = inl refl; same_wire = wire; same_disk = disk })))
unread-stops fault.NoMemory result old name sessions x wire disk is = rw is (for-each old _ (λ input. inl (record { why = inr refl; same_wire = wire; same_disk = disk })))

-- and it stops a courier before the wire is touched
pub unread-unwired : (error : ReadError) (result : Result Reply Stop) (old : Option (List ℕ)) (rounds : ℕ) (x : Wired) → x.after ≡ x.before → result ≡ unread_gives error →
    IfErr result (λ stop. ForInput old (λ input. StopsCarrying rounds x input (status_of_stop stop)))
unread-unwired fault.TooLong result old rounds x wire is = rw is tt
unread-unwired fault.ReadFault result old rounds x wire is = rw is (for-each old _ (λ input. inl (record { why = inl refl; same_wire = wire })))
unread-unwired fault.NoMemory result old rounds x wire is = rw is (for-each old _ (λ input. inl (record { why = inr refl; same_wire = wire })))

-- and a node
pub unread-unserved : (error : ReadError) (result : Result Reply Stop) (old : Option (List ℕ)) (name : List ℕ) (sessions : ℕ) (x : Wired) → x.after ≡ x.before → result ≡ unread_gives error →
    IfErr result (λ stop. ForInput old (λ input. StopsServing name sessions x input (status_of_stop stop)))
unread-unserved fault.TooLong result old name sessions x wire is = rw is tt
unread-unserved fault.ReadFault result old name sessions x wire is = rw is (for-each old _ (λ input. inl (record { why = inl refl; same_wire = wire })))
unread-unserved fault.NoMemory result old name sessions x wire is = rw is (for-each old _ (λ input. inl (record { why = inr refl; same_wire = wire })))
