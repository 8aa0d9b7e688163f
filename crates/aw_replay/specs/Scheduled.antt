-- What is told of the choices of a schedule.
use Rattle.std.specs.Prelude.{map}
use Rattle.std.specs.declared.result.Result.{Result}
use Rattle.aw_accept.specs.declared.accepted.Accepted.{Accepted}
use Rattle.aw_out.specs.Report.{Bounded}
use Rattle.aw_replay.specs.Replays.{Tells}
use Rattle.aw_replay.specs.declared.scheduled.ReplayFault.{ReplayFault}
use Rattle.aw_sched.specs.Answers.{event_seen}
use Rattle.aw_sched.specs.declared.reader.ScheduleReader.{ScheduleReader}
use Rattle.aw_replay.specs.ChoicesIn.{undivided_text}

-- what the undivided run tells of all events that were left of a schedule
abbrev pub RunsUndivided : Accepted → ScheduleReader → Result Bounded ReplayFault → Type 0
RunsUndivided a reader result = Tells (λ es. undivided_text a.grammar (map event_seen es)) reader result
