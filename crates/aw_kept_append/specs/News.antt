-- Which event a frame was by its reply: a choice that was taken, or a message that was new.
use Rattle.std.specs.Prelude.{Bool, true, false, Option, None, Some, if◌then◌else◌}
use Rattle.aw_term.specs.Choices.{Taken}
use Rattle.aw_msg.specs.Frames as F
use Rattle.aw_msg.specs.Responses as R
use Rattle.aw_journal.specs.Events.{Event, Took, Got}

-- whether a reply tells of an event: a message was new, or a choice was taken
abbrev pub is_news : R.Response → Bool
is_news R.WasNew = true
is_news (R.Answers Taken) = true
is_news _ = false

-- the event that a frame asks for, if any
abbrev pub asked : F.Frame → Option Event
asked (F.Push m) = Some (Got m)
asked (F.Choose c) = Some (Took c)
asked (F.Pull place) = None
asked (F.Listed place) = None

-- the event that a frame was by its reply, if it was one
abbrev pub event_by : F.Frame → R.Response → Option Event
event_by f x = if is_news x then asked f else None
