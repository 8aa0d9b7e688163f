-- Replies to a schedule.
use Rattle.std.proofs.Common.{◌≡◌, ℕ, ◌+◌, Bool, List, refl, ap, ◌∙◌, IfOk}
use Rattle.std.specs.declared.result.Result.{Result}
use Rattle.std.proofs.lemmas.Result.{IfOk-weaker}
use Rattle.aw_spec.specs.Reading.{Spec}
use Rattle.aw_sched.specs.declared.fault.SchedKind.{SchedKind}
use Rattle.aw_sched.specs.KindNames.{kind_name as schedule_kind}
use Rattle.aw_sched.specs.Schedules.{read_lines}
use Rattle.aw_typed.specs.Typing.{types_of}
use Rattle.aw_front.specs.Refusals.{at_line}
use Rattle.aw_front.specs.declared.reply.Reply.{Reply}
use Rattle.aw_run.specs.declared.words.Telling.{Telling}
use Rattle.aw_front.specs.Output.{BadSchedule}
use Rattle.aw_run.specs.Output.{TellsSchedule, by_schedule}
use Rattle.aw_front.specs.Replies.{Replies, reply_with}
use Rattle.aw_front.proofs.Verdicts.{reply-same}

-- the reply that tells a schedule
pub told-schedule : {E : Type 0} (result : Result Reply E) (telling : Telling) (s : Spec) (before : ℕ) (loads : Bool) (schedule : List (List ℕ)) →
    IfOk result (λ said. said ≡ reply_with (by_schedule telling s before loads (read_lines (types_of s.types) s.declared 1 schedule))) →
    IfOk result (λ said. Replies (TellsSchedule telling s before loads schedule) said)
told-schedule result telling s before loads schedule = reply-same result (TellsSchedule telling s before loads schedule)
    (by_schedule telling s before loads (read_lines (types_of s.types) s.declared 1 schedule)) refl

-- the refusal of an event by another name
pub bad-event : {E : Type 0} (result : Result Reply E) (line line' before : ℕ) (kind kind' : SchedKind) → line' ≡ line → kind' ≡ kind →
    IfOk result (λ said. said ≡ reply_with (BadSchedule (at_line (before + line') (schedule_kind kind')))) →
    IfOk result (λ said. said ≡ reply_with (BadSchedule (at_line (before + line) (schedule_kind kind))))
bad-event result line line' before kind kind' same_line same_kind =
    IfOk-weaker result _ _
    (λ said w. w ∙ (ap (λ n. reply_with (BadSchedule (at_line (before + n) (schedule_kind kind')))) same_line
    ∙ ap (λ (k : SchedKind). reply_with (BadSchedule (at_line (before + line) (schedule_kind k)))) same_kind))
