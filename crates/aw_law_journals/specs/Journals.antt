-- Journals of all roles: the orders in which their events can have come in one world, and how far they fit.
use Rattle.std.specs.Prelude.{◌≡◌, ℕ, ◌≤◌, true, List, [], ◌∷◌, length, take, Some, slice_get, nat_eq, if◌then◌else◌}
use Rattle.aw_list.specs.Members.{Member}
use Rattle.aw_term.specs.Trees.{Never}
use Rattle.aw_term.specs.Rules.{Grammar, get}
use Rattle.aw_term.specs.Choices.{Taken}
use Rattle.aw_base.specs.ChoiceFits.{choice_ok}
use Rattle.aw_typed.specs.Types.{Types}
use Rattle.aw_typed.specs.TypeFaults.{arg_ok}
use Rattle.aw_apply.specs.Messages.{Message, New}
use Rattle.aw_law_sites.specs.Choosing.{answer_to, choose}
use Rattle.aw_law_sites.specs.Homes.{home}
use Rattle.aw_law_sites.specs.Reacting.{receive}
use Rattle.aw_law_sites.specs.Sites.{Site, Reaction, empty_site}
use Rattle.aw_law_sites.specs.SiteEvents.{SiteEvent, Chose, Got, site_step, site_run}
use Rattle.aw_law_sites.specs.Worlds.{World, empty_world, world_after, node_of, Answered, IsNew, Move, Chooses, Delivers, step}
use Rattle.aw_law_worlds.specs.Invariant.{IsSent, sender}

-- an event, and whose journal has it
pub record Entry : Type 0 where
  pub role : ℕ
  pub event : SiteEvent

-- the events that are one role's, in their order
abbrev pub of_role : ℕ → List Entry → List SiteEvent
of_role r [] = []
of_role r (x ∷ xs) = if nat_eq x.role r then x.event ∷ of_role r xs else of_role r xs

-- the journal of a role among those of all roles; it is empty where none stands
abbrev pub journal_at : List (List SiteEvent) → ℕ → List SiteEvent
journal_at js r = get [] js r

-- the events of all journals, those of each in its order
abbrev pub AreMerged : List (List SiteEvent) → List Entry → Type 0
AreMerged js xs = (r : ℕ) → of_role r xs ≡ journal_at js r

-- What a world allows: a choice that may be asked, and is taken at its home; and a message that was sent, is for this role, and is new there.
abbrev pub Fits : Types → Grammar → World → ℕ → SiteEvent → Move → Type 0
Fits t g w r (Chose c) (Chooses d) =
    (c ≡ d) × (choice_ok g c ≡ true) × (arg_ok t g c ≡ true) × (home g (node_of c) ≡ r) × ((step g w (Chooses c)).reply ≡ Answered Taken)
Fits t g w r (Got m) (Delivers k) = (m.to ≡ r) × IsSent w m k × ((step g w (Delivers k)).reply ≡ IsNew)
Fits t g w r _ _ = Never

-- each in its turn
abbrev pub AllFit : Types → Grammar → World → List Entry → List Move → Type 0
AllFit t g w [] [] = Unit {0}
AllFit t g w (x ∷ xs) (e ∷ es) = Fits t g w x.role x.event e × AllFit t g (step g w e).world xs es
AllFit t g w _ _ = Never

-- these moves are the events of the journals, in an order in which they can have come; workspaces send loads
abbrev pub IsJoint : Types → Grammar → List (List SiteEvent) → List Move → Type 0
IsJoint t g js es = (xs : List Entry) × AreMerged js xs × AllFit t g (empty_world g true) xs es

-- so many first events of each journal
abbrev pub firsts : List ℕ → List (List SiteEvent) → List (List SiteEvent)
firsts ns [] = []
firsts [] (j ∷ js) = [] ∷ firsts [] js
firsts (n ∷ ns) (j ∷ js) = take n j ∷ firsts ns js

-- How far the journals fit: so many first events of each have an order, and behind it no journal's next event is allowed.
pub record IsReach (t : Types) (g : Grammar) (js : List (List SiteEvent)) (ns : List ℕ) (es : List Move) : Type 0 where
  pub joint : IsJoint t g (firsts ns js) es
  pub within : (r : ℕ) → get 0 ns r ≤ length (journal_at js r)
  pub ended : (r : ℕ) (event : SiteEvent) (e : Move) → slice_get (journal_at js r) (get 0 ns r) ≡ Some event → Fits t g (world_after g true es) r event e → Never

-- these are all events of each journal
abbrev pub AreWhole : List ℕ → List (List SiteEvent) → Type 0
AreWhole ns js = (r : ℕ) → get 0 ns r ≡ length (journal_at js r)

-- the workspace of its sender never sends this message, whatever others sent it
abbrev pub NobodySends : Grammar → List (List SiteEvent) → Message → Type 0
NobodySends g js m = let b = sender g m.kind in Member m (site_run g (empty_site true b) (journal_at js b)).outbox → Never

-- each choice is taken and each message is new, at a workspace by itself
abbrev pub IsSound : Grammar → Site → List SiteEvent → Type 0
IsSound g s [] = Unit {0}
IsSound g s (Chose c ∷ es) = (answer_to (choose g s c) ≡ Taken) × IsSound g (site_step g s (Chose c)) es
IsSound g s (Got m ∷ es) = ((x : Reaction) × (receive g s m ≡ New x)) × IsSound g (site_step g s (Got m)) es
