-- The greedy join of journals: as long as the next event of some journal is allowed, it comes.
use Rattle.std.specs.Prelude.{ℕ, zero, suc, ◌+◌, Bool, true, false, ◌&&◌, List, [], ◌∷◌, ◌++◌, map, length, Option, None, Some, slice_get, slice_set, nat_eq, if◌then◌else◌}
use Rattle.aw_term.specs.Rules.{Grammar, get}
use Rattle.aw_term.specs.Choices.{Taken}
use Rattle.aw_base.specs.ChoiceFits.{choice_ok}
use Rattle.aw_typed.specs.Types.{Types}
use Rattle.aw_typed.specs.TypeFaults.{arg_ok}
use Rattle.aw_law_sites.specs.Homes.{home}
use Rattle.aw_law_sites.specs.SiteEvents.{SiteEvent, Chose, Got}
use Rattle.aw_law_sites.specs.Worlds.{World, empty_world, node_of, Reply, Answered, IsNew, Move, Chooses, Delivers, step}
use Rattle.aw_law_journals.specs.Journals.{journal_at}
use Rattle.aw_law_journals.specs.SameMessages.{number_of}

-- a choice was taken
abbrev pub was_taken : Reply → Bool
was_taken (Answered Taken) = true
was_taken _ = false

-- a message was new
abbrev pub was_new : Reply → Bool
was_new IsNew = true
was_new _ = false

-- a message that was sent with this number, where it is for this role and new there
abbrev pub delivery : Grammar → World → Bool → Option ℕ → Option Move
delivery g w mine None = None
delivery g w mine (Some k) = if mine && was_new (step g w (Delivers k)).reply then Some (Delivers k) else None

-- the move that an event of a role's journal is, where the world allows it
abbrev pub allowed : Types → Grammar → World → ℕ → Option SiteEvent → Option Move
allowed t g w r None = None
allowed t g w r (Some (Chose c)) =
    if choice_ok g c && (arg_ok t g c && (nat_eq (home g (node_of c)) r && was_taken (step g w (Chooses c)).reply)) then Some (Chooses c) else None
allowed t g w r (Some (Got m)) = delivery g w (nat_eq m.to r) (number_of 0 m w.messages)

-- so many first events of each journal came, by these moves, which led to this world
pub record Progress : Type 0 where
  pub counts : List ℕ
  pub moves : List Move
  pub world : World

-- nothing came
abbrev pub beginning : Grammar → List (List SiteEvent) → Progress
beginning g js = record { counts = map (λ j. 0) js; moves = []; world = empty_world g true }

-- a role, and the move that its journal's next event is
pub record Turn : Type 0 where
  pub role : ℕ
  pub move : Move

-- the turn of this role, or a later one
abbrev pub turn_or : ℕ → Option Move → Option Turn → Option Turn
turn_or r None later = later
turn_or r (Some e) later = Some (record { role = r; move = e })

-- the first of n roles from role r on whose journal's next event is allowed
abbrev pub next_turn : Types → Grammar → List (List SiteEvent) → Progress → ℕ → ℕ → Option Turn
next_turn t g js p r zero = None
next_turn t g js p r (suc n) = turn_or r (allowed t g p.world r (slice_get (journal_at js r) (get 0 p.counts r))) (next_turn t g js p (suc r) n)

-- it comes
abbrev pub after_turn : Grammar → Progress → Turn → Progress
after_turn g p x = record {
  counts = slice_set p.counts x.role (suc (get 0 p.counts x.role));
  moves = p.moves ++ x.move ∷ [];
  world = (step g p.world x.move).world;
}

-- at most n turns
abbrev pub turns : ℕ → Types → Grammar → List (List SiteEvent) → Progress → Progress
turns zero t g js p = p
turns (suc n) t g js p = elim (next_turn t g js p 0 (length js)) [ None ↦ p | Some x ↦ turns n t g js (after_turn g p x) ]

-- how many events there are
abbrev pub events_in : List (List SiteEvent) → ℕ
events_in [] = 0
events_in (j ∷ js) = length j + events_in js

-- the join: as many turns as there are events, or until none is left
abbrev pub joined : Types → Grammar → List (List SiteEvent) → Progress
joined t g js = turns (events_in js) t g js (beginning g js)
