-- What a workspace replies to a request.
use Rattle.std.specs.Prelude.{ℕ}
use Rattle.aw_term.specs.Names.{Ref}
use Rattle.aw_term.specs.Choices.{Answer}
use Rattle.aw_term.specs.Artifacts.{Item}
use Rattle.aw_apply.specs.Messages.{Content, Message}

-- To a message that came: it was new, it was held already, it contradicts what is held or stands earlier in it, it is about nothing of this role, or
-- a name in it is not valid. To a choice: the two last ones, or its answer. To a question for a place: the message or the item there, or how many
-- there are. To a session: more bytes came than it may have, or no frame stood in a frame's place.
pub data Response : Type 0 where
  WasNew : Response
  WasHeld : Response
  Contradicts : (kept came : Content) → Response
  NotForMe : Response
  NotValid : Response
  Answers : (answer : Answer Ref) → Response
  Sends : (message : Message) → Response
  TooLong : Response
  BadFrame : Response
  Ended : (count : ℕ) → Response
  Shows : (item : Item) → Response
