-- The choices among the program's events.
use Rattle.std.specs.Prelude.{Bool, true, false, List, filter}
use Rattle.aw_sched.specs.declared.event.Event.{Event}
use Rattle.aw_sched.specs.declared.event.Event.TheVariants.{Choose, Deliver, Settle, List as Lists}

-- whether an event is a choice
abbrev pub is_choice : Event → Bool
is_choice (Choose c) = true
is_choice (Deliver message) = false
is_choice Settle = false
is_choice (Lists role) = false

-- those of the events that are choices, in their order
abbrev pub choices_among : List Event → List Event
choices_among events = filter is_choice events
