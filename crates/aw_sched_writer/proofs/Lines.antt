-- The lines that are written for events are read as the events.
use Rattle.std.proofs.Common.{◌≡◌, ℕ, suc, refl, ap, ◌∙◌, cond, List, [], ◌∷◌, ◌++◌, append_assoc, codes}
use Rattle.aw_spelling.proofs.NodeNames.{cut_here}
use Rattle.aw_lex.specs.Lines.{lines_of}
use Rattle.aw_lex.proofs.LineCuts.{lines_by_cut}
use Rattle.aw_term.specs.WellFormed.{Each, IsWellFormed}
use Rattle.aw_choice.specs.Events.{Event}
use Rattle.aw_grammar.specs.Declarations.{Declarations, grammar_in, words_in}
use Rattle.aw_typed.specs.Types.{Types}
use Rattle.aw_typed.specs.Typing.{types_of}
use Rattle.aw_sched.specs.LineSpelling.{line_spelling}
use Rattle.aw_sched.specs.Schedules.{Gives, Faulty, Events, by_form, by_kind, by_type, with_event, in_front, read_line, read_lines}
use Rattle.aw_sched.specs.declared.fault.SchedKind.TheVariants.{Misfit}
use Rattle.aw_sched.proofs.LexedLines.{lexed_line}
use Rattle.aw_sched.proofs.ReadLines.{line_reads}
use Rattle.aw_spec_writer.proofs.Behind.{in_front_is_read}
use Rattle.aw_sched_writer.specs.EventTexts.{event_text, event_line, events_text}
use Rattle.aw_sched_writer.specs.Laws.{CanBeWritten, WrittenEventsAreRead, WrittenScheduleIsRead}
use Rattle.aw_sched_writer.proofs.Asks.{event_asked, event_typed}
use Rattle.aw_sched_writer.proofs.Says.{line_for, event_says, not_passed, line_written}

-- one line
event_read : (t : Types) (d : Declarations) (e : Event) → IsWellFormed (words_in d) (grammar_in d) → CanBeWritten t (grammar_in d) e → read_line t d (event_text (words_in d) e) ≡ Gives e
event_read t d e formed can =
    let w = words_in d in
    let line = line_for w e in
    let asked = event_asked t d e formed can in
    lexed_line t d (event_text w e) (line_spelling line) (not_passed w e) (event_says w e asked.said).lexed
    ∙ ap (by_form t d) (line_reads line (line_written w e asked.said))
    ∙ ap (by_kind t d line) asked.kind
    ∙ ap (by_type t (grammar_in d)) asked.event
    ∙ ap (λ b. cond b (Gives e) (Faulty Misfit)) (event_typed t d e can)

-- the first of the lines
first_line : (t : Types) (d : Declarations) (e : Event) (rest : List ℕ) → IsWellFormed (words_in d) (grammar_in d) → CanBeWritten t (grammar_in d) e →
    lines_of (event_line (words_in d) e ++ rest) ≡ event_text (words_in d) e ∷ lines_of rest
first_line t d e rest formed can =
    let w = words_in d in
    ap lines_of (append_assoc (event_text w e) (codes "\n") rest)
    ∙ lines_by_cut (event_text w e) (event_text w e ++ 10 ∷ rest) rest (cut_here 10 (event_text w e) rest (event_says w e (event_asked t d e formed can).said).unbroken)

events_read : (t : Types) (d : Declarations) (es : List Event) (n : ℕ) → IsWellFormed (words_in d) (grammar_in d) → Each (CanBeWritten t (grammar_in d)) es →
    read_lines t d n (lines_of (events_text (words_in d) es)) ≡ Events es
events_read t d [] n formed can = refl
events_read t d (e ∷ es) n formed can =
    let w = words_in d in
    ap (read_lines t d n) (first_line t d e (events_text w es) formed can.0)
    ∙ ap (λ r. in_front n r (read_lines t d (suc n) (lines_of (events_text w es)))) (event_read t d e formed can.0)
    ∙ ap (with_event e) (events_read t d es (suc n) formed can.1)

pub written_events_are_read : WrittenEventsAreRead
written_events_are_read t d es formed can = events_read t d es 1 formed can

pub written_schedule_is_read : WrittenScheduleIsRead
written_schedule_is_read s loads es w can =
    let behind = in_front_is_read s w loads (events_text (words_in s.declared) es) in
    (behind.0, ap (read_lines (types_of s.types) s.declared 1) behind.1 ∙ events_read (types_of s.types) s.declared es 1 w.formed can)
