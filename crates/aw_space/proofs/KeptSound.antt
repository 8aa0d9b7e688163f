-- What taking a rule keeps of a space: over nodes that are put in, and over the node that is done.
use Rattle.std.proofs.Common.{◌≡◌, ℕ, zero, suc, Bool, true, false, cond, List, [], ◌∷◌, ◌++◌, Some, slice_get, refl, ap, ◌∙◌}
use Rattle.std.specs.Prelude.{not, ◌&&◌, ◌||◌, is_some}
use Rattle.std.proofs.lemmas.Bool.{and_parts, and_from}
use Rattle.aw_list.proofs.Everyday.{or_right as or_late}
use Rattle.aw_term.specs.Names.{Node, Ref, node_eq, node_lt}
use Rattle.aw_term.specs.Rules.{Grammar}
use Rattle.aw_term.specs.WellFormed.{Each}
use Rattle.aw_name.specs.SameNodes.{node_self}
use Rattle.aw_choice.specs.declared.choice.Choice.{Choice}
use Rattle.aw_store.specs.Equations.{Equation, Map}
use Rattle.aw_store.specs.NamedRefs.{all_named}
use Rattle.aw_node_list.specs.declared.held.Held.{Held}
use Rattle.aw_node_list.specs.InOrder.{insert_in, insert_all_in, done_at}
use Rattle.aw_law_sites.specs.Homes.{has_steps, parent}
use Rattle.aw_space.specs.Sound.{is_own, all_own, is_done, all_done, is_rooted, all_rooted, all_inherited}
use Rattle.aw_space.specs.Spaces.{is_home}
use Rattle.aw_space.proofs.Names.{all_named-append, all_named-left, all_named-right}

-- references of the nodes that are put in
named_cases : (ns : List Ref) (b : Bool) (h k : Held) (ks zs : List Held) → all_named ns h.inherited ≡ true → all_named ns (all_inherited (k ∷ ks)) ≡ true → all_named ns (all_inherited zs) ≡ true →
    all_named ns (all_inherited (cond b (h ∷ k ∷ ks) (k ∷ zs))) ≡ true
named_cases ns true h k ks zs here all later = all_named-append ns h.inherited (all_inherited (k ∷ ks)) here all
named_cases ns false h k ks zs here all later = all_named-append ns k.inherited (all_inherited zs) (all_named-left ns k.inherited (all_inherited ks) all) later

pub named_inserted : (ns : List Ref) (h : Held) (hs : List Held) → all_named ns h.inherited ≡ true → all_named ns (all_inherited hs) ≡ true → all_named ns (all_inherited (insert_in h hs)) ≡ true
named_inserted ns h [] here all = all_named-append ns h.inherited [] here refl
named_inserted ns h (k ∷ ks) here all =
    named_cases ns (node_lt h.node k.node) h k ks (insert_in h ks) here all (named_inserted ns h ks here (all_named-right ns k.inherited (all_inherited ks) all))

pub named_all_inserted : (ns : List Ref) (hs ks : List Held) → all_named ns (all_inherited hs) ≡ true → all_named ns (all_inherited ks) ≡ true →
    all_named ns (all_inherited (insert_all_in hs ks)) ≡ true
named_all_inserted ns [] ks new all = all
named_all_inserted ns (h ∷ hs) ks new all =
    named_all_inserted ns hs (insert_in h ks) (all_named-right ns h.inherited (all_inherited hs) new) (named_inserted ns h ks (all_named-left ns h.inherited (all_inherited hs) new) all)

pub inherited_done : (c : Choice) (i : ℕ) (hs : List Held) → all_inherited (done_at c i hs) ≡ all_inherited hs
inherited_done c i [] = refl
inherited_done c zero (h ∷ hs) = refl
inherited_done c (suc i) (h ∷ hs) = ap (λ x. h.inherited ++ x) (inherited_done c i hs)

-- nodes of this role
own_cases : (g : Grammar) (role : ℕ) (b : Bool) (h k : Held) (ks zs : List Held) → is_own g role h ≡ true → all_own g role (k ∷ ks) ≡ true → all_own g role zs ≡ true →
    all_own g role (cond b (h ∷ k ∷ ks) (k ∷ zs)) ≡ true
own_cases g role true h k ks zs here all later = and_from _ _ here all
own_cases g role false h k ks zs here all later = and_from _ _ (and_parts (is_own g role k) _ all).0 later

pub own_inserted : (g : Grammar) (role : ℕ) (h : Held) (hs : List Held) → is_own g role h ≡ true → all_own g role hs ≡ true → all_own g role (insert_in h hs) ≡ true
own_inserted g role h [] here all = and_from _ _ here refl
own_inserted g role h (k ∷ ks) here all =
    own_cases g role (node_lt h.node k.node) h k ks (insert_in h ks) here all (own_inserted g role h ks here (and_parts (is_own g role k) _ all).1)

pub own_all_inserted : (g : Grammar) (role : ℕ) (hs ks : List Held) → all_own g role hs ≡ true → all_own g role ks ≡ true → all_own g role (insert_all_in hs ks) ≡ true
own_all_inserted g role [] ks new all = all
own_all_inserted g role (h ∷ hs) ks new all =
    let (a, b) = and_parts (is_own g role h) _ new in own_all_inserted g role hs (insert_in h ks) b (own_inserted g role h ks a all)

pub own_done : (g : Grammar) (role : ℕ) (c : Choice) (i : ℕ) (hs : List Held) → all_own g role hs ≡ true → all_own g role (done_at c i hs) ≡ true
own_done g role c i [] all = all
own_done g role c zero (h ∷ hs) all = all
own_done g role c (suc i) (h ∷ hs) all = let (a, b) = and_parts (is_own g role h) _ all in and_from _ _ a (own_done g role c i hs b)

-- what was developed stays so
or_later : (a b c : Bool) → (b ≡ true → c ≡ true) → (a || b) ≡ true → (a || c) ≡ true
or_later true b c f e = refl
or_later false b c f e = f e

done_cases : (n : Node) (b : Bool) (h k : Held) (ks zs : List Held) → (is_done n ks ≡ true → is_done n zs ≡ true) → is_done n (k ∷ ks) ≡ true → is_done n (cond b (h ∷ k ∷ ks) (k ∷ zs)) ≡ true
done_cases n true h k ks zs later all = or_late (node_eq n h.node && is_some h.done) _ all
done_cases n false h k ks zs later all = or_later (node_eq n k.node && is_some k.done) (is_done n ks) (is_done n zs) later all

pub done_inserted : (n : Node) (h : Held) (hs : List Held) → is_done n hs ≡ true → is_done n (insert_in h hs) ≡ true
done_inserted n h [] all = absurd cc
done_inserted n h (k ∷ ks) all = done_cases n (node_lt h.node k.node) h k ks (insert_in h ks) (done_inserted n h ks) all

pub done_all_inserted : (n : Node) (hs ks : List Held) → is_done n ks ≡ true → is_done n (insert_all_in hs ks) ≡ true
done_all_inserted n [] ks all = all
done_all_inserted n (h ∷ hs) ks all = done_all_inserted n hs (insert_in h ks) (done_inserted n h ks all)

and_more : (a b c : Bool) → ((a && b) || c) ≡ true → ((a && true) || c) ≡ true
and_more true b true e = refl
and_more true b false e = refl
and_more false b c e = e

pub done_kept : (n : Node) (c : Choice) (i : ℕ) (hs : List Held) → is_done n hs ≡ true → is_done n (done_at c i hs) ≡ true
done_kept n c i [] all = all
done_kept n c zero (h ∷ hs) all = and_more (node_eq n h.node) (is_some h.done) (is_done n hs) all
done_kept n c (suc i) (h ∷ hs) all = or_later (node_eq n h.node && is_some h.done) (is_done n hs) (is_done n (done_at c i hs)) (done_kept n c i hs) all

pub done_here : (c : Choice) (i : ℕ) (hs : List Held) (h : Held) → slice_get hs i ≡ Some h → is_done h.node (done_at c i hs) ≡ true
done_here c i [] h e = absurd cc
done_here c zero (k ∷ ks) h e = let s : k ≡ h = cc in ap (λ (x : Held). (node_eq h.node x.node && true) || is_done h.node ks) s ∙ ap (λ b. (b && true) || is_done h.node ks) (node_self h.node)
done_here c (suc i) (k ∷ ks) h e = or_late (node_eq h.node k.node && is_some k.done) _ (done_here c i ks h e)

-- equations of this role's nodes, where more nodes are developed
pub all_done_kept : (g : Grammar) (role : ℕ) (hs ks : List Held) (k : Map) → ((n : Node) → is_done n hs ≡ true → is_done n ks ≡ true) → all_done g role hs k ≡ true → all_done g role ks k ≡ true
all_done_kept g role hs ks [] more all = refl
all_done_kept g role hs ks (e ∷ es) more all =
    let (a, b) = and_parts (not (is_home g role e.left.node) || is_done e.left.node hs) _ all in
    and_from _ _ (or_later (not (is_home g role e.left.node)) _ _ (more e.left.node) a) (all_done_kept g role hs ks es more b)

pub all_done_append : (g : Grammar) (role : ℕ) (hs : List Held) (k es : Map) → all_done g role hs k ≡ true → all_done g role hs es ≡ true → all_done g role hs (k ++ es) ≡ true
all_done_append g role hs [] es a b = b
all_done_append g role hs (e ∷ k) es a b =
    let (x, y) = and_parts (not (is_home g role e.left.node) || is_done e.left.node hs) _ a in and_from _ _ x (all_done_append g role hs k es y b)

pub all_done_new : (g : Grammar) (role : ℕ) (hs : List Held) (n : Node) (es : Map) → is_done n hs ≡ true → Each (λ (e : Equation). e.left.node ≡ n) es → all_done g role hs es ≡ true
all_done_new g role hs n [] here all = refl
all_done_new g role hs n (e ∷ es) here all =
    and_from _ _ (or_late (not (is_home g role e.left.node)) _ (ap (λ m. is_done m hs) all.0 ∙ here)) (all_done_new g role hs n es here all.1)

-- a child of a node that was developed here, where more nodes are developed
pub rooted_more : (g : Grammar) (role : ℕ) (hs ks : List Held) (n : Node) → ((m : Node) → is_done m hs ≡ true → is_done m ks ≡ true) → is_rooted g role hs n ≡ true → is_rooted g role ks n ≡ true
rooted_more g role hs ks n more e = or_later (not (has_steps n.steps && is_home g role (parent n))) (is_done (parent n) hs) (is_done (parent n) ks) (more (parent n)) e

pub all_rooted_more : (g : Grammar) (role : ℕ) (hs ks : List Held) (xs : List Held) → ((m : Node) → is_done m hs ≡ true → is_done m ks ≡ true) → all_rooted g role hs xs ≡ true →
    all_rooted g role ks xs ≡ true
all_rooted_more g role hs ks [] more e = refl
all_rooted_more g role hs ks (x ∷ xs) more e =
    let (a, b) = and_parts (is_rooted g role hs x.node) _ e in and_from _ _ (rooted_more g role hs ks x.node more a) (all_rooted_more g role hs ks xs more b)

rooted_cases : (g : Grammar) (role : ℕ) (xs : List Held) (b : Bool) (h k : Held) (ks zs : List Held) → is_rooted g role xs h.node ≡ true → all_rooted g role xs (k ∷ ks) ≡ true →
    all_rooted g role xs zs ≡ true → all_rooted g role xs (cond b (h ∷ k ∷ ks) (k ∷ zs)) ≡ true
rooted_cases g role xs true h k ks zs here all later = and_from _ _ here all
rooted_cases g role xs false h k ks zs here all later = and_from _ _ (and_parts (is_rooted g role xs k.node) _ all).0 later

pub rooted_inserted : (g : Grammar) (role : ℕ) (xs : List Held) (h : Held) (hs : List Held) → is_rooted g role xs h.node ≡ true → all_rooted g role xs hs ≡ true →
    all_rooted g role xs (insert_in h hs) ≡ true
rooted_inserted g role xs h [] here all = and_from _ _ here refl
rooted_inserted g role xs h (k ∷ ks) here all =
    rooted_cases g role xs (node_lt h.node k.node) h k ks (insert_in h ks) here all (rooted_inserted g role xs h ks here (and_parts (is_rooted g role xs k.node) _ all).1)

pub rooted_all_inserted : (g : Grammar) (role : ℕ) (xs : List Held) (hs ks : List Held) → all_rooted g role xs hs ≡ true → all_rooted g role xs ks ≡ true →
    all_rooted g role xs (insert_all_in hs ks) ≡ true
rooted_all_inserted g role xs [] ks new all = all
rooted_all_inserted g role xs (h ∷ hs) ks new all =
    let (a, b) = and_parts (is_rooted g role xs h.node) _ new in rooted_all_inserted g role xs hs (insert_in h ks) b (rooted_inserted g role xs h ks a all)

pub rooted_done : (g : Grammar) (role : ℕ) (xs : List Held) (c : Choice) (i : ℕ) (hs : List Held) → all_rooted g role xs hs ≡ true → all_rooted g role xs (done_at c i hs) ≡ true
rooted_done g role xs c i [] all = all
rooted_done g role xs c zero (h ∷ hs) all = all
rooted_done g role xs c (suc i) (h ∷ hs) all = let (a, b) = and_parts (is_rooted g role xs h.node) _ all in and_from _ _ a (rooted_done g role xs c i hs b)

-- a node whose parent is done
pub rooted_below : (g : Grammar) (role : ℕ) (hs : List Held) (n : Node) → is_done (parent n) hs ≡ true → is_rooted g role hs n ≡ true
rooted_below g role hs n e = or_late (not (has_steps n.steps && is_home g role (parent n))) _ e
