-- What an input leads to, by what its specification and its schedule spell.
use Rattle.std.proofs.Common.{◌≡◌, ℕ, ◌+◌, ◌≤◌, ◌<◌, Bool, List, length, drop, sym, ap, ◌∙◌}
use Rattle.aw_lex.specs.Lines.{lines_of}
use Rattle.aw_term.specs.Rules as P
use Rattle.aw_term.specs.Artifacts.{Words}
use Rattle.aw_grammar.specs.declared.grammar.Grammar.{Grammar}
use Rattle.aw_grammar.specs.GrammarOf.{grammar_of, words_of, declarations_of}
use Rattle.aw_grammar.specs.Declarations.{Declarations, grammar_in, words_in}
use Rattle.aw_grammar.proofs.Entries.{declared_words, declared_grammar}
use Rattle.aw_typed.specs.declared.data.Types.{Types}
use Rattle.aw_typed.specs.Typing.{types_of}
use Rattle.aw_spec.specs.Reading.{Spec, Reading, specification}
use Rattle.aw_sched.specs.Events.{Event}
use Rattle.aw_sched.specs.declared.fault.SchedKind.{SchedKind}
use Rattle.aw_sched.specs.KindNames.{kind_name as schedule_kind}
use Rattle.aw_sched.specs.Schedules.{Events, FaultAt, read_lines}
use Rattle.aw_front.specs.declared.limit.TheConstants.{INPUT_LIMIT}
use Rattle.aw_run.specs.declared.words.Telling.{Telling}
use Rattle.aw_run.specs.declared.words.Job.{Job}
use Rattle.aw_front.specs.Refusals.{at_line}
use Rattle.aw_front.specs.Replies.{reply_with}
use Rattle.aw_front.specs.Output.{Output, PastInputLimit, BadSchedule, BySpecification}
use Rattle.aw_front.proofs.Inputs.{by-input-past, by-input-read}
use Rattle.aw_run.specs.Output.{told, within_limit, by_schedule, Makes, IsOutputOf}

-- a good schedule
pub schedule-good : (telling : Telling) (s : Spec) (g : Grammar) (before : ℕ) (loads : Bool) (schedule : List (List ℕ)) (events : List Event)
    (t : Types) → s.declared ≡ declarations_of g → s.types ≡ t → read_lines (types_of t) (declarations_of g) 1 schedule ≡ Events events →
    by_schedule telling s before loads (read_lines (types_of s.types) s.declared 1 schedule) ≡ within_limit (told telling (words_of g) (grammar_of g) loads events)
schedule-good telling s g before loads schedule events t same typed good =
    ap (by_schedule telling s before loads) (ap (λ (u : Types). read_lines (types_of u) s.declared 1 schedule) typed ∙ ap (λ (d : Declarations). read_lines (types_of t) d 1 schedule) same ∙ good)
    ∙ ap (λ (d : Declarations). within_limit (told telling (words_in d) (grammar_in d) loads events)) same
    ∙ ap (λ (w : Words). within_limit (told telling w (grammar_in (declarations_of g)) loads events)) (sym (declared_words g))
    ∙ ap (λ (h : P.Grammar). within_limit (told telling (words_of g) h loads events)) (sym (declared_grammar g))

-- a faulty one
pub schedule-bad : (telling : Telling) (s : Spec) (d : Declarations) (before : ℕ) (loads : Bool) (line : ℕ) (kind : SchedKind)
    (schedule : List (List ℕ)) (t : Types) → s.declared ≡ d → s.types ≡ t → read_lines (types_of t) d 1 schedule ≡ FaultAt line kind →
    reply_with (by_schedule telling s before loads (read_lines (types_of s.types) s.declared 1 schedule)) ≡ reply_with (BadSchedule (at_line (before + line) (schedule_kind kind)))
schedule-bad telling s d before loads line kind schedule t same typed faulty =
    ap (λ r. reply_with (by_schedule telling s before loads r)) (ap (λ (u : Types). read_lines (types_of u) s.declared 1 schedule) typed
    ∙ ap (λ (e : Declarations). read_lines (types_of t) e 1 schedule) same ∙ faulty)

-- what a job makes of the specification of an input
abbrev pub makes_of : Job → List ℕ → Spec → ℕ → Bool → Output → Type 0
makes_of job input s taken loads = Makes job s taken loads (drop taken (lines_of input))

pub output-read : (job : Job) (input : List ℕ) (reading : Reading) (output : Output) → length input ≤ INPUT_LIMIT →
    specification (lines_of input) ≡ reading → BySpecification (makes_of job input) reading output → IsOutputOf job input output
unfolding IsOutputOf
output-read job input reading output within is holds = by-input-read (makes_of job input) input reading output within is holds

pub output-past : (job : Job) (input : List ℕ) → INPUT_LIMIT < length input → IsOutputOf job input PastInputLimit
unfolding IsOutputOf
output-past job input lt = by-input-past (makes_of job input) input lt
