-- What is replied to an accepted specification and the schedule behind it.
use Rattle.std.specs.Prelude.{◌≡◌, ℕ, Bool, List, map}
use Rattle.std.specs.declared.result.Result.{Result}
use Rattle.aw_accept.specs.declared.accepted.Accepted.{Accepted}
use Rattle.aw_grammar.specs.GrammarOf.{declarations_of, grammar_of, words_of}
use Rattle.aw_out.specs.Report.{Bounded}
use Rattle.aw_replay.specs.Replays.{Tells}
use Rattle.aw_replay.specs.declared.scheduled.ReplayFault.{ReplayFault}
use Rattle.aw_sched.specs.Answers.{event_seen}
use Rattle.aw_sched.specs.Schedules.{read_lines}
use Rattle.aw_sched.specs.declared.event.Event.{Event}
use Rattle.aw_sched.specs.declared.reader.ScheduleReader.{ScheduleReader}
use Rattle.aw_spec.specs.Reading.{Spec}
use Rattle.aw_typed.specs.Typing.{types_of}
use Rattle.aw_typed.specs.declared.data.Typed.{Typed}
use Rattle.aw_run.specs.Output.{by_schedule, told}
use Rattle.aw_run.specs.Promises.{OfSchedule, Promises}
use Rattle.aw_front.specs.Replies.{reply_with}
use Rattle.aw_front.specs.declared.reply.Reply.{Reply}
use Rattle.aw_run.specs.declared.words.Telling.{Telling}

-- the reply to the schedule in these lines, behind any specification that declares this grammar, with these types
abbrev pub RepliesTo : Telling → Accepted → Typed → ℕ → (loads : Bool) → List (List ℕ) → Reply → Type 0
RepliesTo telling a t before loads schedule said =
    (s : Spec) → s.declared ≡ declarations_of a.grammar → s.types ≡ t.types → said ≡ reply_with (by_schedule telling s before loads (read_lines (types_of s.types) s.declared 1 schedule))

-- what is promised of the schedule in these lines, behind any specification that declares this grammar, with these types
abbrev pub KeepsPromises : Accepted → Typed → (loads : Bool) → List (List ℕ) → Type 0
KeepsPromises a t loads schedule = (s : Spec) → s.declared ≡ declarations_of a.grammar → s.types ≡ t.types → OfSchedule Promises s loads schedule

-- what is told of a list of events
abbrev pub told_of : Telling → Accepted → (loads : Bool) → List Event → List ℕ
told_of telling a loads es = told telling (words_of a.grammar) (grammar_of a.grammar) loads (map event_seen es)

-- what is told of all events that were left of a schedule
abbrev pub TellsLeft : Telling → Accepted → (loads : Bool) → ScheduleReader → Result Bounded ReplayFault → Type 0
TellsLeft telling a loads reader result = Tells (told_of telling a loads) reader result
