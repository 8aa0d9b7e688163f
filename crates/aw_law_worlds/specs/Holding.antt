-- What the sites of a world hold: that it stays, that it is a configuration, and that nothing waits for itself.
use Rattle.std.specs.Prelude.{◌≡◌, ℕ, List, Some, None, ◌⊎◌}
use Rattle.aw_list.specs.Members.{Member}
use Rattle.aw_term.specs.Trees.{Never}
use Rattle.aw_term.specs.Names.{Ref}
use Rattle.aw_term.specs.Rules.{Term, Ground, Grammar}
use Rattle.aw_term.specs.Matching.{Yes, Waits, Differs, Circle}
use Rattle.aw_term.specs.Configs.{Pending, Done, Config}
use Rattle.aw_term.specs.Choices.{Choice, CircleAt}
use Rattle.aw_term.specs.Held.{Held}
use Rattle.aw_accept.specs.Acyclic.{Pairs}
use Rattle.aw_store.specs.Equations.{Body, Map, find}
use Rattle.aw_apply.specs.Guard.{guard_all}
use Rattle.aw_law_sites.specs.Laws.{Agree}
use Rattle.aw_law_sites.specs.Homes.{home}
use Rattle.aw_law_sites.specs.Choosing.{answer_to, choose}
use Rattle.aw_law_sites.specs.Worlds.{World, site_at, gather}

-- it is among these as it is, or it was pending and is developed
abbrev pub StaysIn : Held → List Held → Type 0
StaysIn h ks = Member h ks ⊎ ((h.state ≡ Pending) × (r : ℕ) × (args : List Ground) × Member (record h { state = Done r args }) ks)

-- nodes stay with the references that they inherited, and a developed one stays as it is
abbrev pub NodesStay : List Held → List Held → Type 0
NodesStay hs ks = (h : Held) → Member h hs → StaysIn h ks

-- equations stay; a guard that is met stays so with the same bound references, and one that differs stays so at the same place; one that waits goes on
-- waiting for the same reference until that has an equation
pub record EquationsStay (k l : Map) : Type 0 where
  pub equations : (r : Ref) (b : Body) → find k r ≡ Some b → find l r ≡ Some b
  pub yes : (n : ℕ) (ps : List Term) (rs bound : List Ref) → guard_all k n ps rs ≡ Yes bound → guard_all l n ps rs ≡ Yes bound
  pub differs : (n : ℕ) (ps : List Term) (rs : List Ref) (path : List ℕ) → guard_all k n ps rs ≡ Differs path → guard_all l n ps rs ≡ Differs path
  pub waits : (n : ℕ) (ps : List Term) (rs : List Ref) (r : Ref) → find l r ≡ None → guard_all k n ps rs ≡ Waits r → guard_all l n ps rs ≡ Waits r

-- the nodes of all sites in order are those of the configuration, with the values of each over its own site's equations, and each is held at its home
pub record HoldsConfig (g : Grammar) (w : World) (c : Config) : Type 0 where
  pub agree : Pairs (λ h q. Agree (site_at w (home g h.node)).equations h q) (gather w.sites) c
  pub at_home : (h : Held) → Member h (gather w.sites) → Member h (site_at w (home g h.node)).held

-- no guard at a held node meets a circle, and no choice is answered so
abbrev pub MeetsNoCircle : Grammar → World → Type 0
MeetsNoCircle g w =
    ((a : ℕ) (h : Held) → Member h (site_at w a).held → (n : ℕ) (ps : List Term) (r : Ref) →
    guard_all (site_at w a).equations n ps h.inherited ≡ Circle r → Never)
    × ((a : ℕ) (c : Choice) (r : Ref) → answer_to (choose g (site_at w a) c) ≡ CircleAt r → Never)
