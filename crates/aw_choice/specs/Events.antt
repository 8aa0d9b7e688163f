-- What a schedule asks for.
use Rattle.std.specs.Prelude.{ℕ}
use Rattle.aw_term.specs.Choices.{Choice}

-- a choice; the delivery of the message with this number; deliveries until none is left; or the worklist of a role
pub data Event : Type 0 where
  Chooses : (choice : Choice) → Event
  Delivers : (message : ℕ) → Event
  Settles : Event
  Lists : (role : ℕ) → Event
