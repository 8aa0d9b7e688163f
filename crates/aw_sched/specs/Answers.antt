-- What reading a schedule answers.
use Rattle.std.specs.Prelude.{◌≡◌, ◌<◌, true, List, map, Result, Ok, Err}
use Rattle.aw_term.specs.Rules.{Grammar}
use Rattle.aw_choice.specs.ChoiceView.{choice_of}
use Rattle.aw_base.specs.ChoiceFits.{choice_ok}
use Rattle.aw_sched.specs.Events as P
use Rattle.aw_typed.specs.Types.{Types}
use Rattle.aw_sched.specs.Schedules.{Read, Events, FaultAt, event_fits}
use Rattle.aw_sched.specs.declared.event.Event.{Event}
use Rattle.aw_sched.specs.declared.event.Event.TheVariants.{Choose, Deliver, Settle, List as Lists}
use Rattle.aw_sched.specs.declared.fault.SchedFault.{SchedFault}
use Rattle.aw_sched.specs.declared.fault.SchedFault.TheVariants.{Bad, NoMemory}

-- an event of the program as the definitions speak of it
abbrev pub event_seen : Event → P.Event
event_seen (Choose c) = P.Chooses (choice_of c)
event_seen (Deliver message) = P.Delivers message
event_seen Settle = P.Settles
event_seen (Lists role) = P.Lists role

-- The events, or the fault. Want of memory says nothing.
abbrev pub Answers : Read → Result (List Event) SchedFault → Type 0
Answers read (Ok events) = read ≡ Events (map event_seen events)
Answers read (Err (Bad line kind)) = read ≡ FaultAt line kind
Answers read (Err NoMemory) = Unit {0}

-- a choice may be asked of this grammar, and a role is one of its roles
abbrev pub MayCome : Grammar → Event → Type 0
MayCome g (Choose c) = choice_ok g (choice_of c) ≡ true
MayCome g (Deliver message) = Unit {0}
MayCome g Settle = Unit {0}
MayCome g (Lists role) = role < g.roles

-- the arguments of a choice fit these types
abbrev pub HasTypes : Types → Grammar → Event → Type 0
HasTypes t g e = event_fits t g (event_seen e) ≡ true
