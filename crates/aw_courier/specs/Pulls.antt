-- What a pull gives.
use Rattle.std.specs.Prelude.{◌≡◌, ℕ, ◌<◌, ◌≤◌, length, List, [], Bool, false, Option, None, Some, Ok}
use Rattle.aw_term.specs.Rules.{Grammar}
use Rattle.aw_apply.specs.Messages.{Message}
use Rattle.aw_law_nodes.specs.Couriers.{Heard, Gave, NoMore, turn_room}
use Rattle.aw_law_nodes.specs.Nodes.{Push, Pull}
use Rattle.aw_courier.specs.Frames.{spelled_frame}
use Rattle.aw_courier.specs.Replies.{reply}
use Rattle.aw_courier.specs.declared.replies.Request.TheVariants as request
use Rattle.aw_courier.specs.declared.turns.Letter.{Letter}

-- this was heard in these bytes
abbrev pub IsHeardIn : Grammar → List ℕ → Heard → Type 0
IsHeardIn g bytes x = reply g request.Pull bytes ≡ Ok (x, [])

-- the letter of a message for a role
pub record IsLetterOf (g : Grammar) (letter : Letter) (m : Message) : Type 0 where
  pub to : m.to ≡ letter.to
  pub role : letter.to < g.roles
  pub frame : letter.frame ≡ spelled_frame (Push m)
  pub short : length letter.frame ≤ turn_room

-- a letter came, or there are no more messages
abbrev pub IsPulled : Grammar → ℕ → (List ℕ → List ℕ → Bool → Type 0) → Option Letter → Type 0
IsPulled g place talks (Some letter) = (bytes : List ℕ) × (m : Message) × talks bytes (spelled_frame (Pull place)) false × IsHeardIn g bytes (Gave m) × IsLetterOf g letter m
IsPulled g place talks None = (bytes : List ℕ) × talks bytes (spelled_frame (Pull place)) false × IsHeardIn g bytes NoMore
