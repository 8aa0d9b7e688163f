-- Finding held nodes, and what they inherited.
use Rattle.std.specs.Prelude.{nat_eq, slice_get, ◌⊎◌}
use Rattle.std.proofs.Common.{Bool, List, None, Option, Some, [], ap, cond, false, inl, inr, length, refl, subst, sym, true, ℕ, ◌∙◌, ◌∷◌, ◌≡◌}
use Rattle.std.proofs.lemmas.Option.{same_Some}
use Rattle.aw_list.specs.Members.{Member}
use Rattle.aw_list.proofs.Members.{member_left, member_right, member_split, never}
use Rattle.aw_term.specs.Choices.{Arguments, NotItsRule, Refused, after_guard}
use Rattle.aw_term.specs.Configs.{Done, Pending, State}
use Rattle.aw_term.specs.Names.{Node, Ref, node_eq}
use Rattle.aw_term.specs.Rules.{Grammar, Ground, Rule}
use Rattle.aw_term.specs.Trees.{Never}
use Rattle.aw_term.specs.Held.{Held, held_of}
use Rattle.aw_name.specs.SameNodes.{node_is, node_self}
use Rattle.aw_store.specs.Equations.{Map}
use Rattle.aw_apply.specs.Guard.{guard_all}
use Rattle.aw_law_sites.specs.Joint.{by_rule, by_state}
use Rattle.aw_law_sites.specs.Asking.{all_inherited}

there_cases : (b : Bool) (n : Node) (q h : Held) (o : Option Held) → node_eq n q.node ≡ b → (n ≡ q.node → q ≡ h) → (b ≡ false → o ≡ Some h) → cond b (Some q) o ≡ Some h
there_cases true n q h o e f g = ap Some (f (node_is n q.node e))
there_cases false n q h o e f g = g refl

-- a held node is found
pub held_of-there : (hs : List Held) (h : Held) (n : Node) → h.node ≡ n → ((q : Held) → Member q hs → q.node ≡ h.node → q ≡ h) → Member h hs → held_of n hs ≡ Some h
held_of-there [] h n e u m = never m
held_of-there (q ∷ hs) h n e u m =
    there_cases (node_eq n q.node) n q h (held_of n hs) refl (λ p. u q (inl refl) (sym p ∙ sym e))
    (λ f. held_of-there hs h n e (λ z i. u z (inr i)) (elim m [
      | inl p ↦ (let z = subst (λ m. node_eq n m ≡ true) (sym e ∙ ap (λ (h : Held). h.node) p) (node_self n) in absurd cc)
      | inr i ↦ i
    ]))

pub not-there : (hs : List Held) (n : Node) → ((q : Held) → Member q hs → q.node ≡ n → Never) → held_of n hs ≡ None
not-there [] n f = refl
not-there (q ∷ hs) n f = none_step (node_eq n q.node) refl (not-there hs n (λ z i. f z (inr i)))
  where
    none_step : (b : Bool) → node_eq n q.node ≡ b → held_of n hs ≡ None → cond b (Some q) (held_of n hs) ≡ None
    none_step true e i = never (f q (inl refl) (sym (node_is n q.node e)))
    none_step false e i = i

same_rule : (k k' : Map) (o : Option Rule) (n : Node) (args : List Ground) (q : Held) (rule : Rule) → o ≡ Some rule → guard_all k 1 rule.patterns
    q.inherited ≡ guard_all k' 1 rule.patterns q.inherited → by_rule o k n args q ≡ by_rule o k' n args q
same_rule k k' None n args q rule e p = absurd cc
same_rule k k' (Some u) n args q rule e p =
    let z : u ≡ rule = same_Some _ _ e in
    let p' = subst (λ (u : Rule). guard_all k 1 u.patterns q.inherited ≡ guard_all k' 1 u.patterns q.inherited) (sym z) p in
    λ i. cond (nat_eq u.sort q.sort) (cond (nat_eq (length args) u.params) (after_guard n u (p' i)) (Refused Arguments)) (Refused NotItsRule)

pub same_state : (g : Grammar) (st : State) (k k' : Map) (n : Node) (ri : ℕ) (args : List Ground) (q : Held) (rule : Rule) →
    slice_get g.rules ri ≡ Some rule → guard_all k 1 rule.patterns q.inherited ≡ guard_all k' 1 rule.patterns q.inherited → by_state st g k n ri args
    q ≡ by_state st g k' n ri args q
same_state g (Done a b) k k' n ri args q rule e p = refl
same_state g Pending k k' n ri args q rule e p = same_rule k k' (slice_get g.rules ri) n args q rule e p

pub mark_other : (b : Bool) (st : State) (d : Held) → b ≡ false → cond b (record d { state = st }) d ≡ d
mark_other true st d e = absurd cc
mark_other false st d e = refl

pub node_cases : (n m : Node) → (n ≡ m) ⊎ (node_eq n m ≡ false)
node_cases n m = go (node_eq n m) refl
  where
    go : (b : Bool) → node_eq n m ≡ b → (n ≡ m) ⊎ (node_eq n m ≡ false)
    go true e = inl (node_is n m e)
    go false e = inr e

pub inherited-of : (r : Ref) (hs : List Held) (h : Held) → Member h hs → Member r h.inherited → Member r (all_inherited hs)
inherited-of r [] h m n = never m
inherited-of r (x ∷ hs) h (inl p) n = member_left r x.inherited (all_inherited hs) (subst (λ (h : Held). Member r h.inherited) p n)
inherited-of r (x ∷ hs) h (inr m) n = member_right r x.inherited (all_inherited hs) (inherited-of r hs h m n)

pub of-inherited : (r : Ref) (hs : List Held) → Member r (all_inherited hs) → (h : Held) × Member h hs × Member r h.inherited
of-inherited r [] m = never m
of-inherited r (x ∷ hs) m = elim (member_split r x.inherited (all_inherited hs) m) [
  | inl a ↦ (x, inl refl, a)
  | inr a ↦ (let (e, b, c) = of-inherited r hs a in (e, inr b, c))
]
