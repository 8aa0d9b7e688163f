-- What each job makes of an input.
use Rattle.std.specs.Prelude.{◌≡◌, ℕ, ◌+◌, Bool, List, length, drop, nat_lt, if◌then◌else◌}
use Rattle.aw_lex.specs.Lines.{lines_of}
use Rattle.aw_term.specs.Rules.{Grammar}
use Rattle.aw_term.specs.Artifacts.{Words}
use Rattle.aw_term.specs.Runs.{plain_text}
use Rattle.aw_law_sites.specs.Outputs.{output_of}
use Rattle.aw_grammar.specs.Declarations.{grammar_in, words_in}
use Rattle.aw_base.specs.declared.declared.Triple.{Triple}
use Rattle.aw_spec.specs.Reading.{Spec}
use Rattle.aw_sched.specs.Events.{Event}
use Rattle.aw_sched.specs.Schedules.{Read, Events, FaultAt, read_lines}
use Rattle.aw_out.specs.declared.report.TheConstants.{OUTPUT_LIMIT}
use Rattle.aw_run.specs.declared.words.Telling.{Telling}
use Rattle.aw_run.specs.declared.words.Telling.TheVariants.{Undivided, Replayed}
use Rattle.aw_run.specs.declared.words.Job.{Job}
use Rattle.aw_run.specs.declared.words.Job.TheVariants.{Check, Tells}
use Rattle.aw_sched.specs.KindNames.{kind_name as schedule_kind}
use Rattle.aw_typed.specs.Typing.{types_of}
use Rattle.aw_front.specs.Refusals.{at_line}
use Rattle.aw_replay.specs.ChoicesIn.{choices_in}
use Rattle.aw_front.specs.Output.{Output, Writes, BadSchedule, PastOutputLimit, IfAccepted, IfTyped, ByInput}
use Rattle.aw_run.specs.Checked.{TellsChecked}

-- an output that is too long is not written at all
abbrev pub within_limit : List ℕ → Output
within_limit text = if nat_lt OUTPUT_LIMIT (length text) then PastOutputLimit else Writes text

-- what is written for events: choices alone, answered by the undivided run; or the lines of all and then the ending, over sites with loads or without
abbrev pub told : Telling → Words → Grammar → (loads : Bool) → List Event → List ℕ
told Undivided w g loads events = plain_text w g (choices_in events)
told Replayed w g loads events = output_of w g loads events

-- the schedule stands behind so many lines, and its own lines are counted on from there
abbrev pub by_schedule : Telling → Spec → ℕ → (loads : Bool) → Read → Output
by_schedule telling s before loads (Events events) = within_limit (told telling (words_in s.declared) (grammar_in s.declared) loads events)
by_schedule telling s before loads (FaultAt line kind) = BadSchedule (at_line (before + line) (schedule_kind kind))

-- what is told of an accepted specification is written, with what it declares and offers, and whether it asks for waiting
abbrev pub WritesChecked : (depends : List Triple) → (offers : List ℕ) → (free : Bool) → Words → Grammar → Output → Type 0
WritesChecked depends offers free w g output = (text : List ℕ) × TellsChecked depends offers free w g text × (output ≡ Writes text)

-- the dependences are told, and after them what the specification asks for: its roles checked apart, and waiting
abbrev pub TellsSpecification : Spec → Output → Type 0
TellsSpecification s = WritesChecked s.depends s.offers s.free (words_in s.declared) (grammar_in s.declared)

-- the schedule that stands behind so many lines is told, with loads or without
abbrev pub TellsSchedule : Telling → Spec → ℕ → (loads : Bool) → List (List ℕ) → Output → Type 0
TellsSchedule telling s before loads schedule output = output ≡ by_schedule telling s before loads (read_lines (types_of s.types) s.declared 1 schedule)

-- What each job makes of a specification whose types have no fault, which takes so many lines and asks for loads or not, and of the lines behind it.
abbrev pub MakesTyped : Job → Spec → ℕ → (loads : Bool) → List (List ℕ) → Output → Type 0
MakesTyped Check s before loads schedule = IfAccepted s (TellsSpecification s)
MakesTyped (Tells telling) s before loads schedule = IfAccepted s (TellsSchedule telling s before loads schedule)

-- What each job makes of a specification, which takes so many lines and asks for loads or not, and of the lines behind it: a fault in the types is told first.
abbrev pub Makes : Job → Spec → ℕ → (loads : Bool) → List (List ℕ) → Output → Type 0
Makes job s before loads schedule = IfTyped s (MakesTyped job s before loads schedule)

-- The output of a job for an input: its lines are a specification, and then perhaps the line `schedule` and a schedule.
unfoldable pub IsOutputOf : Job → List ℕ → Output → Type 0
IsOutputOf job input output = ByInput (λ s taken loads. Makes job s taken loads (drop taken (lines_of input))) input output
