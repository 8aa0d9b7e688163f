-- Wires that never fail.
use Rattle.std.specs.Prelude.{ℕ, List, [], ◌∷◌, Some, None}
use Rattle.std.specs.declared.option.Option.{Option}
use Rattle.aw_out.specs.declared.edge.Arrival.{Arrival}
use Rattle.aw_out.specs.declared.edge.Arrival.TheVariants.{Session, End}

-- the bytes left in the open session, if one is open, and the sessions still to come
pub record Sessions : Type 0 where
  pub current : Option (List ℕ)
  pub coming : List (List ℕ)

-- what the next session answers, where these are to come
abbrev pub arrival_of : List (List ℕ) → Arrival
arrival_of [] = End
arrival_of (session ∷ later) = Session

-- after the next session was asked for: the first of those to come is open
abbrev pub after_arrival : List (List ℕ) → Sessions
after_arrival [] = record { current = None; coming = [] }
after_arrival (session ∷ later) = record { current = Some session; coming = later }

-- after dialing: the first of those to come is open, and where none is to come, one with nothing to read
abbrev pub after_dial : List (List ℕ) → Sessions
after_dial [] = record { current = Some []; coming = [] }
after_dial (session ∷ later) = record { current = Some session; coming = later }
