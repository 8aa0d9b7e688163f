-- Open nodes in order, of what is held in order.
use Rattle.std.proofs.Common.{◌≡◌, ℕ, zero, suc, ◌+◌, Bool, true, false, cond, List, [], ◌∷◌, ◌++◌, drop, ap, sym, ◌∙◌, refl, subst, Option, Some, None, slice_get, append_assoc}
use Rattle.aw_list.proofs.Everyday.{at_next as get_drop}
use Rattle.aw_term.specs.Names.{Node, node_lt}
use Rattle.aw_term.specs.ByNode.{insert_by}
use Rattle.aw_term.specs.Configs.{State, Pending, Done}
use Rattle.aw_term.specs.Rules.{Grammar}
use Rattle.aw_term.specs.WellFormed.{Each, Later}
use Rattle.aw_term.proofs.NodeOrder.{node_order}
use Rattle.aw_term.proofs.ByNodeLemmas.{after_cases}
use Rattle.aw_choice.specs.declared.choice.Choice.{Choice}
use Rattle.aw_choice.specs.declared.choice.Choice.TheVariants.{Start, Develop}
use Rattle.aw_node_list.specs.declared.held.Held.{Held}
use Rattle.aw_node_list.specs.HeldView.{all_of, state_of}
use Rattle.aw_node_list.specs.InOrder.{insert_in, insert_all_in}
use Rattle.aw_node_list.proofs.InOrderLemmas.{Up, each_inserted as each_in}
use Rattle.aw_world.specs.Merged.{merged, nodes_of}
use Rattle.aw_world.specs.NodeLists.{AreOrdered, put_among, is_first_next}
use Rattle.aw_world.specs.Opened.{open_on, open_nodes}
use Rattle.aw_world.specs.declared.workspace.Workspace.{Ghosts}
use Rattle.aw_world.proofs.FirstNodes.{each_weaker}

-- a node before the first that is after it
abbrev put_in : Node → List Node → List Node
put_in m ns = insert_by (λ (n : Node). n) m ns

-- none of these comes before the node
abbrev NoneBefore : Node → List Node → Type 0
NoneBefore m ns = Each (λ n. node_lt n m ≡ false) ns

-- ---- two lists of nodes in one order

passed_over : (m n : Node) (ns : List Node) → node_lt m n ≡ false → put_in m (n ∷ ns) ≡ n ∷ put_in m ns
passed_over m n ns e = ap (λ b. cond b (m ∷ n ∷ ns) (n ∷ put_in m ns)) e

-- the first node stays in front of those that are put in behind it
stays_first : (n : Node) (ms ns : List Node) → NoneBefore n ms → put_among ms (n ∷ ns) ≡ n ∷ put_among ms ns
stays_first n [] ns a = refl
stays_first n (m ∷ ms) ns a = ap (put_among ms) (passed_over m n ns a.0) ∙ stays_first n ms (put_in m ns) a.1

-- the first list's node comes next
pub first_next : (m : Node) (ms ns : List Node) → AreOrdered (m ∷ ms) → is_first_next (m ∷ ms) ns ≡ true → put_among (m ∷ ms) ns ≡ m ∷ put_among ms ns
first_next m ms [] o e = stays_first m ms [] o.0
first_next m ms (n ∷ ns) o e = ap (λ b. put_among ms (cond b (m ∷ n ∷ ns) (n ∷ put_in m ns))) e ∙ stays_first m ms (n ∷ ns) o.0

none_before : (m n : Node) (ms : List Node) → node_lt m n ≡ false → NoneBefore m ms → NoneBefore n ms
none_before m n [] e a = tt
none_before m n (x ∷ ms) e a = (node_order.chain x m n a.0 e, none_before m n ms e a.1)

-- the second list's node comes next
pub second_next : (n : Node) (ms ns : List Node) → AreOrdered ms → is_first_next ms (n ∷ ns) ≡ false → put_among ms (n ∷ ns) ≡ n ∷ put_among ms ns
second_next n [] ns o e = refl
second_next n (m ∷ ms) ns o e = stays_first n (m ∷ ms) ns (e, none_before m n ms e o.0)

-- nothing is left
pub none_next : (ms : List Node) → is_first_next ms [] ≡ false → put_among ms [] ≡ []
none_next [] e = refl
none_next (m ∷ ms) e = absurd cc

-- ---- the first node of what is left

pub ordered_left : (ns : List Node) (i : ℕ) → AreOrdered ns → AreOrdered (drop i ns)
ordered_left ns zero o = o
ordered_left [] (suc i) o = tt
ordered_left (n ∷ ns) (suc i) o = ordered_left ns i o.1

-- ---- open nodes of what is held

abbrev opens : Grammar → List Held → List Node
opens g hs = open_nodes (all_of g hs)

-- each of these comes after the node
abbrev AllAfter : Node → List Node → Type 0
AllAfter m ns = Each (λ n. node_lt m n ≡ true) ns

in_front : (m : Node) (ns : List Node) → AllAfter m ns → put_in m ns ≡ m ∷ ns
in_front m [] a = refl
in_front m (n ∷ ns) a = ap (λ b. cond b (m ∷ n ∷ ns) (n ∷ put_in m ns)) a.0

after_one : (m n x : Node) → node_lt m n ≡ true → node_lt x n ≡ false → node_lt m x ≡ true
after_one m n x l k = let z = after_cases m n x (node_lt m x) refl l k in z

-- what holds for each node that is held holds for the open ones
each_on : (P : Node → Type 0) (s : State) (n : Node) (ns : List Node) → P n → Each P ns → Each P (open_on s n ns)
each_on P Pending n ns p a = (p, a)
each_on P (Done r args) n ns p a = a

each_open : (P : Node → Type 0) (g : Grammar) (hs : List Held) → Each (λ h. P h.node) hs → Each P (opens g hs)
each_open P g [] a = tt
each_open P g (h ∷ hs) a = each_on P (state_of h.done) h.node (opens g hs) a.0 (each_open P g hs a.1)

-- no node that is held comes before one in front of it
abbrev Sorted : List Held → Type 0
Sorted hs = Later (λ h k. node_lt k.node h.node ≡ false) hs

each_after : (m : Node) (k : Held) (ks : List Held) → node_lt m k.node ≡ true → Each (λ x. node_lt x.node k.node ≡ false) ks → Each (λ x. node_lt m x.node ≡ true) ks
each_after m k [] l a = tt
each_after m k (x ∷ ks) l a = (after_one m k.node x.node l a.0, each_after m k ks l a.1)

put_on : (m : Node) (s : State) (n : Node) (ns : List Node) → node_lt m n ≡ false → open_on s n (put_in m ns) ≡ put_in m (open_on s n ns)
put_on m Pending n ns e = sym (passed_over m n ns e)
put_on m (Done r args) n ns e = refl

-- an open node is put in among the open ones
open_cases : (g : Grammar) (h k : Held) (ks : List Held) (b : Bool) → node_lt h.node k.node ≡ b → Sorted (k ∷ ks) → h.done ≡ None → opens g (insert_in h ks) ≡ put_in h.node (opens g ks)
    → opens g (cond b (h ∷ k ∷ ks) (k ∷ insert_in h ks)) ≡ put_in h.node (opens g (k ∷ ks))
open_cases g h k ks true e o is rest =
    ap (λ d. open_on (state_of d) h.node (opens g (k ∷ ks))) is
    ∙ sym (in_front h.node (opens g (k ∷ ks)) (each_open (λ n. node_lt h.node n ≡ true) g (k ∷ ks) (e, each_after h.node k ks e o.0)))
open_cases g h k ks false e o is rest =
    ap (open_on (state_of k.done) k.node) rest ∙ put_on h.node (state_of k.done) k.node (opens g ks) e

open_put : (g : Grammar) (h : Held) (ks : List Held) → Sorted ks → h.done ≡ None → opens g (insert_in h ks) ≡ put_in h.node (opens g ks)
open_put g h [] o is = ap (λ d. open_on (state_of d) h.node []) is
open_put g h (k ∷ ks) o is = open_cases g h k ks (node_lt h.node k.node) refl o is (open_put g h ks o.1 is)

-- one that is not open leaves the open ones as they are
done_state : (c : Choice) (n : Node) (ns : List Node) → open_on (state_of (Some c)) n ns ≡ ns
done_state (Start s k) n ns = refl
done_state (Develop m r args) n ns = refl

done_cases : (g : Grammar) (h k : Held) (ks : List Held) (c : Choice) (b : Bool) → h.done ≡ Some c → opens g (insert_in h ks) ≡ opens g ks
    → opens g (cond b (h ∷ k ∷ ks) (k ∷ insert_in h ks)) ≡ opens g (k ∷ ks)
done_cases g h k ks c true is rest = ap (λ d. open_on (state_of d) h.node (opens g (k ∷ ks))) is ∙ done_state c h.node (opens g (k ∷ ks))
done_cases g h k ks c false is rest = ap (open_on (state_of k.done) k.node) rest

done_put : (g : Grammar) (h : Held) (ks : List Held) (c : Choice) → h.done ≡ Some c → opens g (insert_in h ks) ≡ opens g ks
done_put g h [] c is = ap (λ d. open_on (state_of d) h.node []) is ∙ done_state c h.node []
done_put g h (k ∷ ks) c is = done_cases g h k ks c (node_lt h.node k.node) is (done_put g h ks c is)

not_before : (h k : Held) (ks : List Held) → node_lt h.node k.node ≡ true → Each (λ x. node_lt x.node k.node ≡ false) ks → Each (λ x. node_lt x.node h.node ≡ false) ks
not_before h k [] l a = tt
not_before h k (x ∷ ks) l a = (node_order.one_way h.node x.node (after_one h.node k.node x.node l a.0), not_before h k ks l a.1)

sorted_cases : (h k : Held) (ks : List Held) (b : Bool) → node_lt h.node k.node ≡ b → Sorted (k ∷ ks) → Sorted (insert_in h ks) → Sorted (cond b (h ∷ k ∷ ks) (k ∷ insert_in h ks))
sorted_cases h k ks true e o rest = ((node_order.one_way h.node k.node e, not_before h k ks e o.0), o)
sorted_cases h k ks false e o rest = (each_in (λ x. node_lt x.node k.node ≡ false) h ks e o.0, rest)

sorted_in : (h : Held) (ks : List Held) → Sorted ks → Sorted (insert_in h ks)
sorted_in h [] o = (tt, tt)
sorted_in h (k ∷ ks) o = sorted_cases h k ks (node_lt h.node k.node) refl o (sorted_in h ks o.1)

pub sorted_all_in : (hs ks : List Held) → Sorted ks → Sorted (insert_all_in hs ks)
sorted_all_in [] ks o = o
sorted_all_in (h ∷ hs) ks o = sorted_all_in hs (insert_in h ks) (sorted_in h ks o)

-- the open nodes among those of two lists
put_cases : (g : Grammar) (h : Held) (hs ks : List Held) (d : Option Choice) → h.done ≡ d → Sorted ks
    → put_among (opens g hs) (opens g (insert_in h ks)) ≡ put_among (opens g (h ∷ hs)) (opens g ks)
put_cases g h hs ks None e o = ap (put_among (opens g hs)) (open_put g h ks o e) ∙ sym (ap (λ d. put_among (open_on (state_of d) h.node (opens g hs)) (opens g ks)) e)
put_cases g h hs ks (Some c) e o =
    ap (put_among (opens g hs)) (done_put g h ks c e)
    ∙ sym (ap (λ d. put_among (open_on (state_of d) h.node (opens g hs)) (opens g ks)) e ∙ ap (λ ns. put_among ns (opens g ks)) (done_state c h.node (opens g hs)))

pub opens_put : (g : Grammar) (hs ks : List Held) → Sorted ks → open_nodes (all_of g (insert_all_in hs ks)) ≡ put_among (open_nodes (all_of g hs)) (open_nodes (all_of g ks))
opens_put g [] ks o = refl
opens_put g (h ∷ hs) ks o = opens_put g hs (insert_in h ks) (sorted_in h ks o) ∙ put_cases g h hs ks h.done refl o

ordered_on : (s : State) (n : Node) (ns : List Node) → NoneBefore n ns → AreOrdered ns → AreOrdered (open_on s n ns)
ordered_on Pending n ns a o = (a, o)
ordered_on (Done r args) n ns a o = o

-- the open nodes of what is in order are in order
pub opens_ordered : (g : Grammar) (hs : List Held) → Up hs → AreOrdered (open_nodes (all_of g hs))
opens_ordered g [] up = tt
opens_ordered g (h ∷ hs) up =
    ordered_on (state_of h.done) h.node (opens g hs)
    (each_open (λ n. node_lt n h.node ≡ false) g hs (each_weaker (λ k. node_lt h.node k.node ≡ true) (λ k. node_lt k.node h.node ≡ false) (λ k m. node_order.one_way h.node k.node m) hs up.0))
    (opens_ordered g hs up.1)

-- ---- one node more was looked at

open_more : (s : State) (n : Node) (ns : List Node) → open_on s n [] ++ ns ≡ open_on s n ns
open_more Pending n ns = refl
open_more (Done r args) n ns = refl

pub opened : (g : Grammar) (hs : List Held) (i : ℕ) (h : Held) (old new whole : List Node) → slice_get hs i ≡ Some h → new ≡ old ++ open_on (state_of h.done) h.node []
    → old ++ open_nodes (all_of g (drop i hs)) ≡ whole → new ++ open_nodes (all_of g (drop (i + 1) hs)) ≡ whole
opened g hs i h old new whole here is so =
    ap (λ z. z ++ open_nodes (all_of g (drop (i + 1) hs))) is
    ∙ append_assoc old (open_on (state_of h.done) h.node []) (open_nodes (all_of g (drop (i + 1) hs)))
    ∙ ap (λ z. old ++ z) (open_more (state_of h.done) h.node (open_nodes (all_of g (drop (i + 1) hs))) ∙ ap (λ z. open_nodes (all_of g z)) (sym (get_drop hs i h here)))
    ∙ so

-- ---- what is taken of two lists

pub first_taken : (ms ns : List Node) (m : Node) (rest : List Node) → AreOrdered ms → is_first_next ms ns ≡ true → ms ≡ m ∷ rest → put_among ms ns ≡ m ∷ put_among rest ns
first_taken ms ns m rest o t e = ap (λ xs. put_among xs ns) e ∙ first_next m rest ns (subst AreOrdered e o) (ap (λ xs. is_first_next xs ns) (sym e) ∙ t)

pub second_taken : (ms ns : List Node) (n : Node) (rest : List Node) → AreOrdered ms → is_first_next ms ns ≡ false → ns ≡ n ∷ rest → put_among ms ns ≡ n ∷ put_among ms rest
second_taken ms ns n rest o t e = ap (put_among ms) e ∙ second_next n ms rest o (ap (is_first_next ms) (sym e) ∙ t)

-- ---- one workspace more

sorted_merged : (hss : List (List Held)) → Sorted (merged hss)
sorted_merged [] = tt
sorted_merged (hs ∷ hss) = sorted_all_in hs (merged hss) (sorted_merged hss)

-- the open nodes of a workspace and of those behind it
pub opens_more : {W : Type 0} (f : Ghosts W) (g : Grammar) (ws : List W) (i j : ℕ) (w : W) → slice_get ws i ≡ Some w → j ≡ i + 1
    → put_among (open_nodes (all_of g (f.its_nodes w))) (open_nodes (all_of g (merged (nodes_of f (drop j ws))))) ≡ open_nodes (all_of g (merged (nodes_of f (drop i ws))))
opens_more f g ws i j w e n =
    ap (λ k. put_among (opens g (f.its_nodes w)) (opens g (merged (nodes_of f (drop k ws))))) n
    ∙ sym (ap (λ vs. opens g (merged (nodes_of f vs))) (get_drop ws i w e) ∙ opens_put g (f.its_nodes w) (merged (nodes_of f (drop (i + 1) ws))) (sorted_merged (nodes_of f (drop (i + 1) ws))))
