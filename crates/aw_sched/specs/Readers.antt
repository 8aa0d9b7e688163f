-- What a reader of a schedule has still to read.
use Rattle.std.specs.Prelude.{◌≡◌, ◌+◌, ◌<◌, ◌^◌, suc, List, [], Option, None, Some, Result, Ok, Err, length, map}
use Rattle.aw_term.specs.WellFormed.{Each}
use Rattle.aw_lex.specs.Lines.{lines_of}
use Rattle.aw_grammar.specs.GrammarOf.{declarations_of, grammar_of}
use Rattle.aw_base.specs.ReadFronts.{IsReaderOf}
use Rattle.aw_typed.specs.Typing.{types_of, IsMadeFor}
use Rattle.aw_sched.specs.Schedules.{Read, Events, FaultAt, read_lines, with_event}
use Rattle.aw_sched.specs.Answers.{HasTypes, MayCome, event_seen}
use Rattle.aw_sched.specs.LastNodes.{IsLast}
use Rattle.aw_sched.specs.LineEvents.{with_events}
use Rattle.aw_sched.specs.declared.event.Event.{Event}
use Rattle.aw_sched.specs.declared.fault.SchedFault.{SchedFault}
use Rattle.aw_sched.specs.declared.fault.SchedFault.TheVariants.{Bad, NoMemory}
use Rattle.aw_sched.specs.declared.reader.ScheduleReader.{ScheduleReader}

-- what the lines give that were not read yet
abbrev pub left : ScheduleReader → Read
left r = read_lines (types_of r.typed.now.types) (declarations_of r.grammar.now) (suc r.line) (lines_of r.rest.now)

-- The types were made for the grammar, what is kept of the last names was read by it, and all lines can be counted.
pub record IsReading (r : ScheduleReader) : Type 0 where
  pub made : IsMadeFor (grammar_of r.grammar.now) r.typed.now
  pub nodes : IsReaderOf r.grammar.now r.nodes
  pub last : IsLast r.grammar.now r.last
  pub counted : r.line + length r.rest.now < 2 ^ 64

-- An event in front of what is left then; the end; or the fault. Want of memory says nothing.
abbrev pub ReadsNext : Read → Result (Option Event) SchedFault → Read → Type 0
ReadsNext before (Ok None) after = before ≡ Events []
ReadsNext before (Ok (Some e)) after = before ≡ with_event (event_seen e) after
ReadsNext before (Err (Bad line kind)) after = before ≡ FaultAt line kind
ReadsNext before (Err NoMemory) after = Unit {0}

-- The same of one line alone. Where it is passed over, the same is left behind it.
abbrev pub ReadsOn : Read → Result (Option Event) SchedFault → Read → Type 0
ReadsOn before (Ok None) after = before ≡ after
ReadsOn before (Ok (Some e)) after = before ≡ with_event (event_seen e) after
ReadsOn before (Err (Bad line kind)) after = before ≡ FaultAt line kind
ReadsOn before (Err NoMemory) after = Unit {0}

-- These events are read next, and then this is left. They may come, and the arguments of their choices have their types.
pub record AreRead (r : ScheduleReader) (es : List Event) (later : Read) : Type 0 where
  pub read : left r ≡ with_events (map event_seen es) later
  pub come : Each (MayCome (grammar_of r.grammar.now)) es
  pub typed : Each (HasTypes (types_of r.typed.now.types) (grammar_of r.grammar.now)) es

-- some events up to the end; or the fault. Want of memory says nothing.
abbrev pub Passes : ScheduleReader → Result Unit SchedFault → Type 0
Passes r (Ok done) = (es : List Event) × AreRead r es (Events [])
Passes r (Err (Bad line kind)) = left r ≡ FaultAt line kind
Passes r (Err NoMemory) = Unit {0}
