-- The program's events, as contracts see them.
use Rattle.std.specs.Prelude.{List, map}
use Rattle.aw_choice.specs.ChoiceView.{choice_of}
use Rattle.aw_journal.specs.Events as plain
use Rattle.aw_journal.specs.declared.payload.NodeEvent.{NodeEvent}
use Rattle.aw_journal.specs.declared.payload.NodeEvent.TheVariants.{Took, Got}

-- an event of the program, with its choice as the plain one
abbrev pub event_of : NodeEvent → plain.Event
event_of (Took c) = plain.Took (choice_of c)
event_of (Got m) = plain.Got m

-- each of them
abbrev pub events_seen : List NodeEvent → List plain.Event
events_seen events = map event_of events
