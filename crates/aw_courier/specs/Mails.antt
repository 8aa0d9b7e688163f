-- What a courier keeps: of each role the requests that wait for it, and the first place not yet pulled.
use Rattle.std.specs.Prelude.{◌≡◌, ℕ, ◌<◌, ◌≤◌, List, [], ◌∷◌, length, map, slice_index, slice_index_or, slice_set}
use Rattle.aw_term.specs.Rules.{Grammar}
use Rattle.aw_apply.specs.Messages.{Message}
use Rattle.aw_law_nodes.specs.Couriers.{Courier, for_role}
use Rattle.aw_law_nodes.specs.Nodes.{Push}
use Rattle.aw_courier.specs.Frames.{spelled_frame}
use Rattle.aw_courier.specs.declared.queue.NextUp.{NextUp}
use Rattle.aw_courier.specs.declared.queue.NextUp.TheVariants.{Frame, TooLong, Nothing}

-- by role: the requests that wait, in order, and the place
pub record Mailed : Type 0 where
  pub queues : List (List (List ℕ))
  pub places : List ℕ

-- how messages are pushed
abbrev pub pushed_frames : List Message → List (List ℕ)
pushed_frames ms = map (λ (m : Message). spelled_frame (Push m)) ms

-- what waits for a role
abbrev pub queue_at : Mailed → ℕ → List (List ℕ)
queue_at m role = slice_index_or m.queues role []

-- the first place of a role that was not yet pulled
abbrev pub place_at : Mailed → ℕ → ℕ
place_at m role = slice_index m.places role

-- the same, but for what waits for a role
abbrev pub with_queue : Mailed → ℕ → List (List ℕ) → Mailed
with_queue m role queue = record m { queues = slice_set m.queues role queue }

-- there is a queue and a place for the role
abbrev pub Holds : ℕ → Mailed → Type 0
Holds role m = (role < length m.queues) × (role < length m.places)

-- there is one of each for so many roles
abbrev pub HasRoles : ℕ → Mailed → Type 0
HasRoles roles m = (length m.queues ≡ roles) × (length m.places ≡ roles)

-- there are as many as before
abbrev pub SameSize : Mailed → Mailed → Type 0
SameSize old new = (length new.queues ≡ length old.queues) × (length new.places ≡ length old.places)

-- these are the messages and the places of the courier
pub record Shows (g : Grammar) (m : Mailed) (c : Courier) : Type 0 where
  pub many : length m.queues ≡ g.roles
  pub places : m.places ≡ c.places
  pub all : length c.places ≡ g.roles
  pub queues : (r : ℕ) → r < g.roles → queue_at m r ≡ pushed_frames (for_role r c.waiting)

-- what is next in a queue: its first request, which has so much room and is taken out, one that has none, or nothing
abbrev pub IsNextUp : ℕ → List (List ℕ) → List (List ℕ) → NextUp → Type 0
IsNextUp room old new (Frame frame) = (old ≡ frame ∷ new) × (length frame ≤ room)
IsNextUp room old new TooLong = (new ≡ old) × (frame : List ℕ) × (rest : List (List ℕ)) × (old ≡ frame ∷ rest) × (room < length frame)
IsNextUp room old new Nothing = (new ≡ old) × (old ≡ [])
