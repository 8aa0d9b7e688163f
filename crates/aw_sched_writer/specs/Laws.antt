-- What is written for events is read as these events.
use Rattle.std.specs.Prelude.{◌≡◌, suc, ◌<◌, ◌^◌, true, Bool, List, ◌∷◌, ◌++◌, length, drop}
use Rattle.aw_lex.specs.Lines.{lines_of}
use Rattle.aw_term.specs.Names.{Step}
use Rattle.aw_term.specs.Rules.{Grammar}
use Rattle.aw_term.specs.Choices.{Choice, Start, Develop}
use Rattle.aw_term.specs.WellFormed.{Each, IsWellFormed}
use Rattle.aw_choice.specs.Events.{Event, Chooses, Delivers, Settles, Lists}
use Rattle.aw_grammar.specs.Declarations.{Declarations, grammar_in, words_in}
use Rattle.aw_base.specs.ChoiceFits.{choice_ok}
use Rattle.aw_typed.specs.Types.{Types}
use Rattle.aw_typed.specs.Typing.{types_of}
use Rattle.aw_typed.specs.TypeFaults.{arg_ok}
use Rattle.aw_spec.specs.Lines.{ScheduleLine}
use Rattle.aw_spec.specs.Reading.{Spec, Good, specification}
use Rattle.aw_spec_writer.specs.LineTexts.{line_text}
use Rattle.aw_spec_writer.specs.SpecLines.{spec_lines, written}
use Rattle.aw_spec_writer.specs.Writable.{NumbersFit, IsWritable}
use Rattle.aw_sched.specs.Printed.{IsHeld}
use Rattle.aw_sched.specs.Schedules.{Events, read_lines, schedule_of}
use Rattle.aw_sched_writer.specs.EventTexts.{events_text}

-- each number of a choice has 64 bits, and its node has few steps
abbrev pub IsSmallChoice : Choice → Type 0
IsSmallChoice (Start sort case) = case < 2 ^ 64
IsSmallChoice (Develop node rule args) = IsHeld node × Each (λ (s : Step). s.child < 2 ^ 64) node.steps × Each NumbersFit args

-- An event that can be written: a choice that may be asked of the grammar, with arguments of these types, a role of it, and numbers of 64 bits.
abbrev pub CanBeWritten : Types → Grammar → Event → Type 0
CanBeWritten t g (Chooses c) = (choice_ok g c ≡ true) × (arg_ok t g c ≡ true) × IsSmallChoice c
CanBeWritten t g (Delivers k) = k < 2 ^ 64
CanBeWritten t g Settles = Unit {0}
CanBeWritten t g (Lists role) = role < g.roles

-- what is written for events that can be written is read as these events
abbrev pub WrittenEventsAreRead : Type 0
WrittenEventsAreRead = (t : Types) (d : Declarations) (es : List Event) → IsWellFormed (words_in d) (grammar_in d) → Each (CanBeWritten t (grammar_in d)) es →
    schedule_of t d (events_text (words_in d) es) ≡ Events es

-- Where a specification and events that can be written are written, with the line `schedule` or `schedule 2` between them, the specification is read, and from the lines
-- behind it the events.
abbrev pub WrittenScheduleIsRead : Type 0
WrittenScheduleIsRead = (s : Spec) (loads : Bool) (es : List Event) → IsWritable s → Each (CanBeWritten (types_of s.types) (grammar_in s.declared)) es →
    let text = written s ++ (line_text (ScheduleLine loads) ++ 10 ∷ events_text (words_in s.declared) es) in
    let taken = suc (length (spec_lines s)) in
    (specification (lines_of text) ≡ Good s taken loads) × (read_lines (types_of s.types) s.declared 1 (drop taken (lines_of text)) ≡ Events es)
