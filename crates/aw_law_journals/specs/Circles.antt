-- Journals that each make sense alone and yet have no order: which of them wait for one another.
use Rattle.std.specs.Prelude.{◌≡◌, ◌⊎◌, ℕ, ◌<◌, ◌≤◌, true, List, length, Some, slice_get}
use Rattle.aw_term.specs.Rules.{Grammar, get}
use Rattle.aw_term.specs.WellFormed.{Each}
use Rattle.aw_base.specs.ChoiceFits.{choice_ok}
use Rattle.aw_typed.specs.Types.{Types}
use Rattle.aw_typed.specs.TypeFaults.{arg_ok}
use Rattle.aw_apply.specs.Messages.{Message}
use Rattle.aw_law_sites.specs.Homes.{home}
use Rattle.aw_law_sites.specs.Sites.{empty_site}
use Rattle.aw_law_sites.specs.SiteEvents.{SiteEvent, Chose, Got}
use Rattle.aw_law_sites.specs.Worlds.{Move, node_of}
use Rattle.aw_law_worlds.specs.Invariant.{sender}
use Rattle.aw_law_journals.specs.Journals.{journal_at, IsReach, IsSound, NobodySends}
use Rattle.aw_law_journals.specs.Laws.{SendsAt}

-- a choice that may be asked, of a node of this role; or a message that is for it
abbrev pub IsOwn : Types → Grammar → ℕ → SiteEvent → Type 0
IsOwn t g r (Chose c) = (choice_ok g c ≡ true) × (arg_ok t g c ≡ true) × (home g (node_of c) ≡ r)
IsOwn t g r (Got m) = m.to ≡ r

-- the journal of a role makes sense alone: its node would take all of it
abbrev pub MakesSense : Types → Grammar → List (List SiteEvent) → ℕ → Type 0
MakesSense t g js r = Each (IsOwn t g r) (journal_at js r) × IsSound g (empty_site true r) (journal_at js r)

-- The one journal ends before a message that the other one sends with an event that did not come either.
pub record WaitsFor (g : Grammar) (js : List (List SiteEvent)) (ns : List ℕ) (a b : ℕ) : Type 0 where
  pub message : Message
  pub next : slice_get (journal_at js a) (get 0 ns a) ≡ Some (Got message)
  pub from : sender g message.kind ≡ b
  pub place : ℕ
  pub later : get 0 ns b ≤ place
  pub within : place < length (journal_at js b)
  pub sends : SendsAt g js b place message

-- one journal waits for the other, or for one that leads to it so
pub data LeadsTo (g : Grammar) (js : List (List SiteEvent)) (ns : List ℕ) : ℕ → ℕ → Type 0 where
  waits : {a b : ℕ} → WaitsFor g js ns a b → LeadsTo g js ns a b
  further : {a b c : ℕ} → WaitsFor g js ns a b → LeadsTo g js ns b c → LeadsTo g js ns a c

-- Where journals that make sense alone do not fit whole, one of them ends before a message that nobody sends, or they wait for each other in a circle.
abbrev pub StopsAtForgeryOrCircle : Types → Grammar → Type 0
StopsAtForgeryOrCircle t g = (js : List (List SiteEvent)) (ns : List ℕ) (es : List Move) → IsReach t g js ns es → ((r : ℕ) → MakesSense t g js r) →
    (r : ℕ) → get 0 ns r < length (journal_at js r) →
    ((a : ℕ) × (m : Message) × (slice_get (journal_at js a) (get 0 ns a) ≡ Some (Got m)) × NobodySends g js m) ⊎ ((a : ℕ) × LeadsTo g js ns a a)
