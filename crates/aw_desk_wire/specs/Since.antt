-- The sessions of a wire over desks since a moment.
use Rattle.std.specs.Prelude.{◌≡◌, ◌⊎◌, ℕ, List, ◌++◌, false, option_to_list}
use Rattle.aw_term.specs.WellFormed.{Each}
use Rattle.aw_msg.specs.Frames.{Frame}
use Rattle.aw_msg.specs.Streams.{Stream}
use Rattle.aw_out.specs.Wires.{Session}
use Rattle.aw_desk_wire.specs.Calls.{Calls, passed_in}
use Rattle.aw_desk_wire.specs.Honest.{WasHonest}

-- no call failed in these sessions
abbrev pub NoneFailed : List Session → Type 0
NoneFailed xs = Each (λ (x : Session). x.failed ≡ false) xs

-- these sessions are over in place of those that are
abbrev pub with_over : List Session → Calls → Calls
with_over xs cs = record cs { over = xs }

-- What a wire was since its desks were the first ones and these sessions had passed. No session was dialed since, and none is open. Or there are such
-- sessions, and where no call failed in them they were honest from the first desks on.
abbrev pub HonestSince : {D : Type 0} → (D → Frame → List ℕ → D → Type 0) → List D → List Session → List D → Stream → Calls → Type 0
HonestSince {D} answers first passed ds kept cs =
    ((cs.is_open ≡ false) × (passed_in cs ≡ passed) × (ds ≡ first))
    ⊎ ((xs : List Session) × (cs.over ≡ passed ++ xs) × (NoneFailed (xs ++ option_to_list cs.last) → WasHonest answers first ds kept (with_over xs cs)))
