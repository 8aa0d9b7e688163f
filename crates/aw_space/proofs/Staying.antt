-- What stays over the calls of a space.
use Rattle.std.proofs.Common.{◌≡◌, ℕ, Bool, true, false, cond, List, ◌++◌, map, Option, Some, None, refl, sym, ◌∙◌, subst, inl, inr}
use Rattle.std.specs.Prelude.{◌⊎◌}
use Rattle.aw_list.specs.Members.{Member}
use Rattle.aw_list.proofs.Members.{member_map}
use Rattle.aw_term.specs.Names.{Node, Ref, node_eq}
use Rattle.aw_term.specs.Rules.{Ground, Grammar}
use Rattle.aw_term.specs.Configs.{Done}
use Rattle.aw_term.specs.Choices.{Choice, Start, Develop, Outcome, Refused, Starts, Takes}
use Rattle.aw_term.specs.Held.{Held, held_of, mark, insert_held}
use Rattle.aw_name.specs.SameNodes.{node_is}
use Rattle.aw_store.specs.Equations.{Equation, Map, find}
use Rattle.aw_store.proofs.MoreEquations.{find-left_more}
use Rattle.aw_apply.specs.Made.{Call, made}
use Rattle.aw_law_sites.specs.Joint.{root_held, called_held}
use Rattle.aw_law_sites.specs.Laws.{IsSubmap}
use Rattle.aw_law_sites.proofs.AnyOrders.{Member-inserted_held, Member-all_held}
use Rattle.aw_law_sites.proofs.Guarding.{Final, guard_all-keeps}
use Rattle.aw_law_sites.specs.Receiving.{add_all}
use Rattle.aw_law_sites.specs.Reacting.{add_held}
use Rattle.aw_law_sites.specs.Telling.{calls_in}
use Rattle.aw_law_sites.specs.Worlds.{node_of}
use Rattle.aw_law_worlds.proofs.Learning.{add-kept as each_more}
use Rattle.aw_space.specs.Keeping.{KeepsFacts, KeepsNodes, KeepsNodesBut}
use Rattle.aw_space.specs.Spaces.{Space, outcome, space_on, space_after, with_call}

-- ---- equations

-- where equations stay, decided guards do
pub facts_on : (k l : Map) → IsSubmap k l → KeepsFacts k l
facts_on k l within = record {
  equations = within;
  yes = λ ps rs bound e. guard_all-keeps k l within 1 ps rs (subst (Final l) (sym e) tt) ∙ e;
  differs = λ ps rs path e. guard_all-keeps k l within 1 ps rs (subst (Final l) (sym e) tt) ∙ e;
}

pub facts_same : (k l : Map) → l ≡ k → KeepsFacts k l
facts_same k l e = facts_on k l (λ r b f. subst (λ m. find m r ≡ Some b) (sym e) f)

pub facts_more : (k l es : Map) → l ≡ k ++ es → KeepsFacts k l
facts_more k l es e = facts_on k l (λ r b f. subst (λ m. find m r ≡ Some b) (sym e) (find-left_more k es r b f))

pub facts_told : (k l : Map) (es : List Equation) → l ≡ add_all k es → KeepsFacts k l
facts_told k l es e = facts_on k l (λ r b f. subst (λ m. find m r ≡ Some b) (sym e) (each_more k es r b f))

facts_cases : (g : Grammar) (role : ℕ) (s : Space) (c : Choice) (x : Outcome Ref Ref) → KeepsFacts s.equations (space_on g role s c x).equations
facts_cases g role s c (Refused a) = facts_same s.equations s.equations refl
facts_cases g role s (Start t l) Starts = facts_same s.equations s.equations refl
facts_cases g role s (Start t l) (Takes rule bound) = facts_same s.equations s.equations refl
facts_cases g role s (Develop n r args) Starts = facts_same s.equations s.equations refl
facts_cases g role s (Develop n r args) (Takes rule bound) = facts_more s.equations (s.equations ++ (made n r rule args bound).equations) (made n r rule args bound).equations refl

pub facts_after : (g : Grammar) (role : ℕ) (s : Space) (c : Choice) → KeepsFacts s.equations (space_after g role s c).equations
facts_after g role s c = facts_cases g role s c (outcome g s c)

-- ---- nodes

pub nodes_same : (hs ks : List Held) → ks ≡ hs → KeepsNodes hs ks
nodes_same hs ks e h m = subst (Member h) (sym e) m

pub nodes_but : (n : Node) (hs ks : List Held) → KeepsNodes hs ks → KeepsNodesBut n hs ks
nodes_but n hs ks keeps h m = inl (keeps h m)

pub nodes_put : (c : Held) (hs : List Held) → KeepsNodes hs (insert_held c hs)
nodes_put c hs h m = Member-inserted_held h c hs (inr m)

held_cases : (o : Option Held) (c : Call) (hs : List Held) → KeepsNodes hs (add_held o c hs)
held_cases None c hs = nodes_put (called_held c) hs
held_cases (Some k) c hs = λ h m. m

pub nodes_called : (c : Option Call) (hs : List Held) → KeepsNodes hs (with_call c hs)
nodes_called None hs = λ h m. m
nodes_called (Some c) hs = held_cases (held_of c.node hs) c hs

mark_cases : (t : Bool) (n : Node) (r : ℕ) (args : List Ground) (h : Held) (ks : List Held) → node_eq n h.node ≡ t → Member (cond t (record h { state = Done r args }) h) ks →
    Member h ks ⊎ ((h.node ≡ n) × (r : ℕ) × (args : List Ground) × Member (record h { state = Done r args }) ks)
mark_cases true n r args h ks e m = inr (sym (node_is n h.node e), r, args, m)
mark_cases false n r args h ks e m = inl m

nodes_cases : (g : Grammar) (role : ℕ) (s : Space) (c : Choice) (x : Outcome Ref Ref) → KeepsNodesBut (node_of c) s.held (space_on g role s c x).held
nodes_cases g role s c (Refused a) = λ h m. inl m
nodes_cases g role s (Start t l) Starts = nodes_but _ s.held (insert_held (root_held t l) s.held) (nodes_put (root_held t l) s.held)
nodes_cases g role s (Start t l) (Takes rule bound) = λ h m. inl m
nodes_cases g role s (Develop n r args) Starts = λ h m. inl m
nodes_cases g role s (Develop n r args) (Takes rule bound) = λ h m.
    mark_cases (node_eq n h.node) n r args h _ refl
    (Member-all_held (mark n (Done r args) h) (calls_in g role (made n r rule args bound).calls) (map (mark n (Done r args)) s.held) (inr (member_map (mark n (Done r args)) h s.held m)))

pub nodes_after : (g : Grammar) (role : ℕ) (s : Space) (c : Choice) → KeepsNodesBut (node_of c) s.held (space_after g role s c).held
nodes_after g role s c = nodes_cases g role s c (outcome g s c)
