-- Finding held nodes, and the place of a new one, in the order of nodes.
use Rattle.std.proofs.Common.{◌≡◌, ℕ, zero, suc, ◌<◌, ◌≤◌, List, [], ◌∷◌, ◌++◌, ◌+◌, length, map, take, drop, get_or, Option, Some, None, slice_get}
use Rattle.std.proofs.Common.{Bool, true, false, cond, ap, subst, sym, ◌∙◌, refl, arith}
use Rattle.std.specs.Prelude.{not, option_map}
use Rattle.std.specs.List.{AllWithin, insert}
use Rattle.std.specs.List.Sorted.{IsPartitionedBy}
use Rattle.std.proofs.lemmas.List.{map-id}
use Rattle.aw_term.specs.Names.{Node, node_lt, node_eq}
use Rattle.aw_term.specs.ByNode.{IsOrderedBy}
use Rattle.aw_term.specs.WellFormed.{Each, Later}
use Rattle.aw_term.proofs.Eaches.{each_map}
use Rattle.aw_name.specs.SameNodes.{node_self, node_is}
use Rattle.std.proofs.lemmas.Option.{slice_get_within, get_or_from_slice_get}
use Rattle.aw_term.proofs.NodeOrder.{node_order, node_tied, node-trans, node-no}
use Rattle.aw_term.proofs.ByNodeLemmas.{other_before, other_after, strict_cases as is_before}
use Rattle.aw_term.proofs.ByNodeLemmas as by
use Rattle.aw_node_list.specs.declared.held.Held.{Held}
use Rattle.aw_node_list.specs.InOrder.{IsInOrder, place_in, insert_in, Lacks}

-- each node comes before all later ones, node by node
abbrev pub Up : List Held → Type 0
Up hs = Later (λ h k. node_lt h.node k.node ≡ true) hs

each_at : (P : Held → Type 0) (hs : List Held) (i : ℕ) (d : Held) → Each P hs → i < length hs → P (get_or hs i d)
each_at P [] i d each l = absurd (omega (arith, l))
each_at P (h ∷ hs) zero d each l = each.0
each_at P (h ∷ hs) (suc i) d each l = each_at P hs i d each.1 (omega (arith, l))

each_from : (P : Held → Type 0) (hs : List Held) → ((k : ℕ) (d : Held) → k < length hs → P (get_or hs k d)) → Each P hs
each_from P [] f = tt
each_from P (h ∷ hs) f = (f 0 h (omega arith), each_from P hs (λ k d l. f (suc k) d (omega (arith, l))))

-- the same for the places of a list
pub up_of : (hs : List Held) → IsInOrder hs → Up hs
up_of [] f = tt
up_of (h ∷ hs) f = (each_from _ hs (λ k d l. f 0 (suc k) d (omega arith) (omega (arith, l))), up_of hs (λ i j d le l. f (suc i) (suc j) d (omega (arith, le)) (omega (arith, l))))

-- an earlier node comes before a later one
pub far : (hs : List Held) → Up hs → (i j : ℕ) (d : Held) → i < j → j < length hs → node_lt (get_or hs i d).node (get_or hs j d).node ≡ true
far [] up i j d lt l = absurd (omega (arith, l))
far (h ∷ hs) up i zero d lt l = absurd (omega (arith, lt))
far (h ∷ hs) up zero (suc j) d lt l = each_at (λ k. node_lt h.node k.node ≡ true) hs j d up.0 (omega (arith, l))
far (h ∷ hs) up (suc i) (suc j) d lt l = far hs up.1 i j d (omega (arith, lt)) (omega (arith, l))

abbrev at : Held → Node
at h = h.node

abbrev self : Held → Held
self h = h

-- nodes in order are in the order of records by their nodes
by_node : (hs : List Held) → IsInOrder hs → IsOrderedBy at (map self hs)
by_node hs up = subst (IsOrderedBy at) (sym (map-id hs)) (λ k d low l. node_order.one_way (get_or hs k d).node (get_or hs (k + 1) d).node (up k (k + 1) d (omega arith) (omega (arith, l))))

-- the nodes before a node stand in front
pub before_first : (hs : List Held) (n : Node) → IsInOrder hs → IsPartitionedBy (λ h. node_lt h.node n) hs
before_first hs n up = by.before_first at self hs n (by_node hs up)

-- a node goes between those that it is not before and those that it is before
pub inserted_at : (hs : List Held) (n : Node) (i : ℕ) → i ≤ length hs → AllWithin (λ h. not (node_lt n h.node) ≡ true) hs 0 i →
    AllWithin (λ h. not (node_lt n h.node) ≡ false) hs i (length hs) → (h : Held) → h.node ≡ n → insert_in h hs ≡ insert hs i h
inserted_at hs n i le low high h e =
    ap (insert_in h) (sym (map-id hs)) ∙ by.inserted_at at self hs n i le low high h e ∙ (λ j. map-id (take i hs) j ++ h ∷ map-id (drop i hs) j)

-- the place behind those that are before the node, where it is the node's
pub place_here : (hs : List Held) (n : Node) (i : ℕ) (h : Held) → AllWithin (λ h. node_lt h.node n ≡ true) hs 0 i → slice_get hs i ≡ Some h →
    node_eq n h.node ≡ true → place_in n hs ≡ Some i
place_here [] n i h low at e = absurd cc
place_here (x ∷ xs) n zero h low at e =
    let same : x ≡ h = cc in
    ap (λ b. cond b (Some 0) (option_map suc (place_in n xs))) (ap (λ (r : Held). node_eq n r.node) same ∙ e)
place_here (x ∷ xs) n (suc i) h low at e =
    ap (λ b. cond b (Some 0) (option_map suc (place_in n xs))) (other_before n x.node (low 0 x (omega arith) (omega arith)))
    ∙ ap (option_map suc) (place_here xs n i h (λ k d a b. low (suc k) d (omega arith) (omega (arith, b))) at e)

-- the place at which the node stands is the node's, where all are in order
pub place_found : (hs : List Held) (n : Node) (i : ℕ) (h : Held) → IsInOrder hs → slice_get hs i ≡ Some h → node_eq n h.node ≡ true → place_in n hs ≡ Some i
place_found hs n i h up here e = place_here hs n i h low here e
  where
    same : (d : Held) → (get_or hs i d).node ≡ n
    same d = ap (λ (x : Held). x.node) (get_or_from_slice_get hs i h d here) ∙ sym (node_is n h.node e)

    low : AllWithin (λ h. node_lt h.node n ≡ true) hs 0 i
    low k d a b = subst (λ m. node_lt (get_or hs k d).node m ≡ true) (same d) (up k i d b (slice_get_within hs i h here))

none_after : (hs : List Held) (n : Node) → Each (λ h. node_lt n h.node ≡ true) hs → place_in n hs ≡ None
none_after [] n high = refl
none_after (x ∷ xs) n high =
    ap (λ b. cond b (Some 0) (option_map suc (place_in n xs))) (other_after n x.node high.0) ∙ ap (option_map suc) (none_after xs n high.1)

-- what is before a node is before all that are after it
before_all : (n m : Node) (hs : List Held) → node_lt n m ≡ true → Each (λ h. node_lt m h.node ≡ true) hs → Each (λ h. node_lt n h.node ≡ true) hs
before_all n m hs l each = each_map _ _ hs (λ h e. node-trans n m h.node l e) each

-- where neither comes before the other, the test says that they are one
tied : (n m : Node) → node_lt n m ≡ false → node_lt m n ≡ false → node_eq n m ≡ true
tied n m e f = subst (λ k. node_eq n k ≡ true) (node_tied n m e f) (node_self n)

is_after : (n m : Node) (x : Bool) → node_lt m n ≡ x → node_lt n m ≡ false → node_eq n m ≡ false → x ≡ true
is_after n m true e f differ = refl
is_after n m false e f differ = let t = tied n m f e in absurd cc

-- no place of the node, where the one behind those that are before it is another's
pub place_gone : (hs : List Held) (n : Node) (i : ℕ) → Up hs → AllWithin (λ h. node_lt h.node n ≡ true) hs 0 i →
    AllWithin (λ h. node_lt h.node n ≡ false) hs i (length hs) → ((h : Held) → slice_get hs i ≡ Some h → node_eq n h.node ≡ false) → place_in n hs ≡ None
place_gone [] n i up low high here = refl
place_gone (x ∷ xs) n zero up low high here =
    let differ = here x refl in
    let first = is_before n x.node _ refl (high 0 x (omega arith) (omega arith)) differ in
    ap (λ b. cond b (Some 0) (option_map suc (place_in n xs))) differ ∙ ap (option_map suc) (none_after xs n (before_all n x.node xs first up.0))
place_gone (x ∷ xs) n (suc i) up low high here =
    ap (λ b. cond b (Some 0) (option_map suc (place_in n xs))) (other_before n x.node (low 0 x (omega arith) (omega arith)))
    ∙ ap (option_map suc) (place_gone xs n i up.1 (λ k d a b. low (suc k) d (omega arith) (omega (arith, b))) (λ k d a b. high (suc k) d (omega (arith, a)) (omega (arith, b))) here)

lacks_cases : (n : Node) (b : Bool) (o : Option ℕ) → cond b (Some 0) (option_map suc o) ≡ None → (b ≡ false) × (o ≡ None)
lacks_cases n true o e = absurd cc
lacks_cases n false None e = (refl, refl)
lacks_cases n false (Some i) e = absurd cc

insert_cases : (P : Held → Type 0) (b : Bool) (h k : Held) (ks zs : List Held) → P h → Each P (k ∷ ks) → Each P zs →
    Each P (cond b (h ∷ k ∷ ks) (k ∷ zs))
insert_cases P true h k ks zs here each later = (here, each)
insert_cases P false h k ks zs here each later = (each.0, later)

pub each_inserted : (P : Held → Type 0) (h : Held) (hs : List Held) → P h → Each P hs → Each P (insert_in h hs)
each_inserted P h [] here each = (here, tt)
each_inserted P h (k ∷ ks) here each = insert_cases P (node_lt h.node k.node) h k ks (insert_in h ks) here each (each_inserted P h ks here each.1)

comes_after : (h k : Held) (ks : List Held) → Lacks h.node (k ∷ ks) → node_lt h.node k.node ≡ false → node_lt k.node h.node ≡ true
comes_after h k ks lacks e =
    is_after h.node k.node _ refl e (lacks_cases h.node (node_eq h.node k.node) (place_in h.node ks) lacks).0

ordered_cases : (b : Bool) (h k : Held) (ks : List Held) → node_lt h.node k.node ≡ b → Lacks h.node (k ∷ ks) → Up (k ∷ ks) → Up (insert_in h ks) →
    Up (cond b (h ∷ k ∷ ks) (k ∷ insert_in h ks))
ordered_cases true h k ks e lacks up later = ((e, before_all h.node k.node ks e up.0), up)
ordered_cases false h k ks e lacks up later = (each_inserted (λ x. node_lt k.node x.node ≡ true) h ks (comes_after h k ks lacks e) up.0, later)

-- a node that is not held keeps the order
pub ordered_inserted : (h : Held) (hs : List Held) → Up hs → Lacks h.node hs → Up (insert_in h hs)
ordered_inserted h [] up lacks = (tt, tt)
ordered_inserted h (k ∷ ks) up lacks =
    ordered_cases (node_lt h.node k.node) h k ks refl lacks up (ordered_inserted h ks up.1 (lacks_cases h.node (node_eq h.node k.node) (place_in h.node ks) lacks).1)

lacking : (n : Node) (hs : List Held) → Lacks n hs → (k : ℕ) (d : Held) → k < length hs → node_eq n (get_or hs k d).node ≡ false
lacking n [] e k d l = absurd (omega (arith, l))
lacking n (h ∷ hs) e zero d l = (lacks_cases n (node_eq n h.node) (place_in n hs) e).0
lacking n (h ∷ hs) e (suc k) d l = lacking n hs (lacks_cases n (node_eq n h.node) (place_in n hs) e).1 k d (omega (arith, l))

not_after : (n m : Node) (b : Bool) → node_lt n m ≡ b → node_lt m n ≡ true → b ≡ false
not_after n m true e f = elim (node-no n (node-trans n m n e f)) [ ]
not_after n m false e f = refl

-- a node that is not held goes behind those that are before it
pub inserted_before : (hs : List Held) (n : Node) (i : ℕ) → i ≤ length hs → AllWithin (λ h. node_lt h.node n ≡ true) hs 0 i →
    AllWithin (λ h. node_lt h.node n ≡ false) hs i (length hs) → Lacks n hs → (h : Held) → h.node ≡ n → insert_in h hs ≡ insert hs i h
inserted_before hs n i le low high lacks h e =
    inserted_at hs n i le
    (λ k d a b. ap not (not_after n (get_or hs k d).node _ refl (low k d a b)))
    (λ k d a b. ap not (is_before n (get_or hs k d).node _ refl (high k d a b) (lacking n hs lacks k d b)))
    h e

-- all up to one that is before a node are before it
pub front_to : (hs : List Held) (n : Node) (i : ℕ) (h : Held) → IsInOrder hs → slice_get hs i ≡ Some h → node_lt h.node n ≡ true →
    AllWithin (λ h. node_lt h.node n ≡ true) hs 0 (i + 1)
front_to hs n i h up e t =
    λ k d a b. before_first hs n up k i d (omega (arith, b)) (slice_get_within hs i h e) (ap (λ (x : Held). node_lt x.node n) (get_or_from_slice_get hs i h d e) ∙ t)

-- all from one that is not before a node are not before it
pub rest_from : (hs : List Held) (n : Node) (i : ℕ) (h : Held) → IsInOrder hs → slice_get hs i ≡ Some h → node_lt h.node n ≡ false →
    AllWithin (λ h. node_lt h.node n ≡ false) hs i (length hs)
rest_from hs n i h up e t = λ k d a b. by k d a b (node_lt (get_or hs k d).node n) refl
  where
    by : (k : ℕ) (d : Held) → i ≤ k → k < length hs → (x : Bool) → node_lt (get_or hs k d).node n ≡ x → x ≡ false
    by k d a b true f =
        let here = before_first hs n up i k d a b f in
        let there = ap (λ (x : Held). node_lt x.node n) (get_or_from_slice_get hs i h d e) ∙ t in
        absurd cc
    by k d a b false f = refl
