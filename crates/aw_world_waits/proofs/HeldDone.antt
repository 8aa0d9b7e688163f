-- Whether a node is held as developed.
use Rattle.std.proofs.Common.{◌≡◌, Bool, true, false, cond, List, [], ◌∷◌, refl, sym, ap, subst, inl, inr}
use Rattle.aw_list.specs.Members.{Member}
use Rattle.aw_list.proofs.Members.{never}
use Rattle.aw_term.specs.Held.{Held}
use Rattle.aw_term.specs.Names.{Node, node_eq}
use Rattle.aw_name.specs.SameNodes.{node_is, node_self}
use Rattle.aw_world_waits.specs.Waiters.{is_done, holds_done}

-- a held node is held as it stands, where it is held once
pub done_here : (hs : List Held) (h : Held) → Member h hs → ((k : Held) → Member k hs → k.node ≡ h.node → k ≡ h) → holds_done h.node hs ≡ is_done h.state
done_here [] h m u = never m
done_here (k ∷ hs) h m u = go (node_eq h.node k.node) refl m (λ i. done_here hs h i (λ x j. u x (inr j)))
  where
    go : (b : Bool) → node_eq h.node k.node ≡ b → Member h (k ∷ hs) → (Member h hs → holds_done h.node hs ≡ is_done h.state) → cond b (is_done k.state) (holds_done h.node hs) ≡ is_done h.state
    go true e i rest = ap (λ (k : Held). is_done k.state) (u k (inl refl) (sym (node_is h.node k.node e)))
    go false e (inl p) rest = let z = subst (λ (k : Held). node_eq h.node k.node ≡ true) p (node_self h.node) in absurd cc
    go false e (inr i) rest = rest i

-- and one that is held as developed is among these
pub done_found : (hs : List Held) (n : Node) → holds_done n hs ≡ true → (h : Held) × Member h hs × (h.node ≡ n) × (is_done h.state ≡ true)
done_found [] n e = absurd cc
done_found (k ∷ hs) n e = go (node_eq n k.node) refl e (done_found hs n)
  where
    go : (b : Bool) → node_eq n k.node ≡ b → cond b (is_done k.state) (holds_done n hs) ≡ true → (holds_done n hs ≡ true → (h : Held) × Member h hs × (h.node ≡ n) × (is_done h.state ≡ true))
        → (h : Held) × Member h (k ∷ hs) × (h.node ≡ n) × (is_done h.state ≡ true)
    go true f i rest = (k, inl refl, sym (node_is n k.node f), i)
    go false f i rest = let (h, m, p, s) = rest i in (h, inr m, p, s)
