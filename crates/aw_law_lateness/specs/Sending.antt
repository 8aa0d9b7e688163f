-- What two offices have in common that asked, watched, called and sent, once nothing new can come.
use Rattle.std.specs.Prelude.{◌≡◌, ℕ, true, false, List, None, IsPermutation}
use Rattle.aw_list.specs.Members.{Member}
use Rattle.aw_term.specs.Names.{Ref}
use Rattle.aw_term.specs.Rules.{Grammar}
use Rattle.aw_store.specs.Equations.{Equation, find}
use Rattle.aw_apply.specs.Made.{Call}
use Rattle.aw_law_sites.specs.Sites.{Site}
use Rattle.aw_law_sites.specs.Worlds.{site_at}
use Rattle.aw_law_worlds.specs.Invariant.{calls_at}
use Rattle.aw_law_lateness.specs.Lateness.{BetweenStill}

-- a reference without an equation was asked for by both or by neither, and the same roles watch it at both
pub record SameOpenQuestions (s t : Site) : Type 0 where
  pub asked : (r : Ref) → find s.equations r ≡ None → s.asked r ≡ t.asked r
  pub watched : (r : Ref) (role : ℕ) → find s.equations r ≡ None → s.watches r role ≡ t.watches r role

-- each office waits for the same values, and has the same ones to tell once it knows them
abbrev pub OpenQuestionsAreTheSame : Grammar → Type 0
OpenQuestionsAreTheSame g = BetweenStill g (λ loads other w v. (a : ℕ) → SameOpenQuestions (site_at w a) (site_at v a))

-- the site called this child at that role, with some load
abbrev pub HasCalled : Site → ℕ → Call → Type 0
HasCalled s to c = (load : List Equation) × Member (calls_at to c load) s.outbox

-- both called the same children at the same roles, whatever the loads
abbrev pub SameCalls : Site → Site → Type 0
SameCalls s t = (to : ℕ) (c : Call) → (HasCalled s to c → HasCalled t to c) × (HasCalled t to c → HasCalled s to c)

-- each office handed on the same work, with the same references
abbrev pub CallsAreTheSame : Grammar → Type 0
CallsAreTheSame g = BetweenStill g (λ loads other w v. (a : ℕ) → SameCalls (site_at w a) (site_at v a))

-- for what the one asked the other asked too, and whoever watches at the one watches at the other
pub record AsksNoMore (s t : Site) : Type 0 where
  pub asked : (r : Ref) → s.asked r ≡ true → t.asked r ≡ true
  pub watched : (r : Ref) (role : ℕ) → s.watches r role ≡ true → t.watches r role ≡ true

-- with loads no office asks for anything for which it does not ask without
abbrev pub LoadsAskNoMore : Grammar → Type 0
LoadsAskNoMore g = BetweenStill g (λ loads other w v. other ≡ false → (a : ℕ) → AsksNoMore (site_at w a) (site_at v a))

-- the same was asked for, the same roles watch the same, and the same messages were sent, perhaps in another order
pub record SameSent (s t : Site) : Type 0 where
  pub asked : (r : Ref) → s.asked r ≡ t.asked r
  pub watched : (r : Ref) (role : ℕ) → s.watches r role ≡ t.watches r role
  pub outbox : IsPermutation s.outbox t.outbox

-- without loads each office sent the same messages, and so did all together
abbrev pub BareMessagesAreTheSame : Grammar → Type 0
BareMessagesAreTheSame g = BetweenStill g (λ loads other w v. loads ≡ false → other ≡ false →
    ((a : ℕ) → SameSent (site_at w a) (site_at v a)) × IsPermutation w.messages v.messages)
