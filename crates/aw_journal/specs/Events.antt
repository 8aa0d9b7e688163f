-- Events of a node, and how each is spelled in bytes.
use Rattle.std.specs.Prelude.{ℕ, zero, suc, List, [], ◌∷◌, Option, None, option_map}
use Rattle.aw_term.specs.Choices as Q
use Rattle.aw_term.specs.WellFormed.{Each}
use Rattle.aw_codec.specs.Choices.{choice, spelled_choice}
use Rattle.aw_codec.specs.Ranges.{ChoiceSized, ChoiceInRange}
use Rattle.aw_msg.specs.declared.message.Message.{Message}
use Rattle.aw_msg.specs.Messages.{message, spelled_message, MessageSized, MessageInRange}
use Rattle.aw_msg.specs.Frames.{whole}

-- what a node did: it took a choice, or got a message
pub data Event : Type 0 where
  Took : (c : Q.Choice) → Event
  Got : (m : Message) → Event

-- 1 and a choice, or 2 and a message
abbrev pub payload_of : Event → List ℕ
payload_of (Took c) = 1 ∷ spelled_choice c
payload_of (Got m) = 2 ∷ spelled_message m

-- the event that some bytes exactly are
unfoldable pub event_in : List ℕ → Option Event
event_in [] = None
event_in (zero ∷ bytes) = None
event_in (suc zero ∷ bytes) = option_map Took (whole choice bytes)
event_in (suc (suc zero) ∷ bytes) = option_map Got (whole message bytes)
event_in (suc (suc (suc k)) ∷ bytes) = None

-- what may be appended
abbrev pub EventInRange : Event → Type 0
EventInRange (Took c) = ChoiceInRange c
EventInRange (Got m) = MessageInRange m

-- its numbers have the sizes of the program's types
abbrev pub EventSized : Event → Type 0
EventSized (Took c) = ChoiceSized c
EventSized (Got m) = MessageSized m

-- what is read from its payload
abbrev pub IsEvent : Event → Type 0
IsEvent event = EventSized event × EventInRange event

-- each of these has the sizes and the ranges of an event
abbrev pub AllEvents : List Event → Type 0
AllEvents events = Each IsEvent events
