-- Lists of held nodes in order, put together: the first node of all, and what is left behind it.
use Rattle.std.proofs.Common.{◌≡◌, ℕ, zero, suc, ◌<◌, arith, Bool, true, false, cond, List, [], ◌∷◌, length, drop, ap, sym, ◌∙◌, refl, subst, Option, Some, None, slice_get}
use Rattle.std.specs.Prelude.{option_and_then}
use Rattle.std.proofs.lemmas.Option.{same_Some}
use Rattle.aw_term.specs.Names.{node_lt}
use Rattle.aw_term.specs.WellFormed.{Each}
use Rattle.aw_term.proofs.NodeOrder.{node_order, node-trans}
use Rattle.aw_node_list.specs.declared.held.Held.{Held}
use Rattle.aw_node_list.specs.InOrder.{insert_in, insert_all_in}
use Rattle.aw_node_list.proofs.InOrderLemmas.{Up, each_inserted as each_in}
use Rattle.aw_world.specs.Merged.{merged}
use Rattle.aw_world.specs.Firsts.{IsFirst}

-- each of these comes after the node
abbrev After : Held → List Held → Type 0
After h ks = Each (λ k. node_lt h.node k.node ≡ true) ks

-- none of these comes before the node
abbrev NotBefore : Held → List Held → Type 0
NotBefore h ks = Each (λ k. node_lt k.node h.node ≡ false) ks

pub each_weaker : (P Q : Held → Type 0) → ((k : Held) → P k → Q k) → (ks : List Held) → Each P ks → Each Q ks
each_weaker P Q f [] a = tt
each_weaker P Q f (k ∷ ks) a = (f k a.0, each_weaker P Q f ks a.1)

pub each_cases : (P : Held → Type 0) (b : Bool) (h k : Held) (ks zs : List Held) → P h → P k → Each P ks → Each P zs → Each P (cond b (h ∷ k ∷ ks) (k ∷ zs))
each_cases P true h k ks zs p q a b = (p, (q, a))
each_cases P false h k ks zs p q a b = (q, b)

each_all_in : (P : Held → Type 0) (hs ks : List Held) → Each P hs → Each P ks → Each P (insert_all_in hs ks)
each_all_in P [] ks a b = b
each_all_in P (h ∷ hs) ks a b = each_all_in P hs (insert_in h ks) a.1 (each_in P h ks a.0 b)

-- a node before all others is put in front
front_in : (h : Held) (ks : List Held) → After h ks → insert_in h ks ≡ h ∷ ks
front_in h [] a = refl
front_in h (k ∷ ks) a = ap (λ b. cond b (h ∷ k ∷ ks) (k ∷ insert_in h ks)) a.0

behind_in : (x h : Held) (ks : List Held) → node_lt x.node h.node ≡ false → insert_in x (h ∷ ks) ≡ h ∷ insert_in x ks
behind_in x h ks e = ap (λ b. cond b (x ∷ h ∷ ks) (h ∷ insert_in x ks)) e

-- the first node stays in front of those that are put in behind it
stays_first : (h : Held) (hs ks : List Held) → NotBefore h hs → insert_all_in hs (h ∷ ks) ≡ h ∷ insert_all_in hs ks
stays_first h [] ks a = refl
stays_first h (x ∷ hs) ks a = ap (insert_all_in hs) (behind_in x h ks a.0) ∙ stays_first h hs (insert_in x ks) a.1

-- the first node of the list at a place
abbrev pub head_of : List (List Held) → ℕ → Option Held
head_of hss j = option_and_then (λ (hs : List Held). slice_get hs 0) (slice_get hss j)

-- without the first node of the list at a place
abbrev pub without : List (List Held) → ℕ → List (List Held)
without [] b = []
without (hs ∷ hss) zero = drop 1 hs ∷ hss
without (hs ∷ hss) (suc b) = hs ∷ without hss b

-- a list whose first node is after this one is after it as a whole
after_list : (h : Held) (hs : List Held) → Up hs → ((k : Held) → slice_get hs 0 ≡ Some k → node_lt h.node k.node ≡ true) → After h hs
after_list h [] up f = tt
after_list h (k ∷ hs) up f =
    let l = f k refl in
    (l, each_weaker (λ x. node_lt k.node x.node ≡ true) (λ x. node_lt h.node x.node ≡ true) (λ x m. node-trans h.node k.node x.node l m) hs up.0)

not_before_list : (h : Held) (hs : List Held) → Up hs → ((k : Held) → slice_get hs 0 ≡ Some k → node_lt k.node h.node ≡ false) → NotBefore h hs
not_before_list h [] up f = tt
not_before_list h (k ∷ hs) up f =
    let l = f k refl in
    (l, each_weaker (λ x. node_lt k.node x.node ≡ true) (λ x. node_lt x.node h.node ≡ false) (λ x m. node_order.chain x.node k.node h.node (node_order.one_way k.node x.node m) l) hs up.0)

-- each list is in order
abbrev pub AllUp : List (List Held) → Type 0
AllUp [] = Unit {0}
AllUp (hs ∷ hss) = Up hs × AllUp hss

after_merged : (h : Held) (hss : List (List Held)) → AllUp hss → ((j : ℕ) (k : Held) → head_of hss j ≡ Some k → node_lt h.node k.node ≡ true) → After h (merged hss)
after_merged h [] up f = tt
after_merged h (hs ∷ hss) up f =
    each_all_in _ hs (merged hss) (after_list h hs up.0 (λ k e. f 0 k e)) (after_merged h hss up.1 (λ j k e. f (suc j) k e))

-- the first node of all lists stands in front, and the others are put together behind it
pub first_merged : (hss : List (List Held)) (b : ℕ) (h : Held) → AllUp hss → head_of hss b ≡ Some h → ((j : ℕ) (k : Held) → head_of hss j ≡ Some k → IsFirst b h j k)
    → merged hss ≡ h ∷ merged (without hss b)
first_merged [] b h up e f = absurd cc
first_merged ([] ∷ hss) zero h up e f = absurd cc
first_merged ((x ∷ hs) ∷ hss) zero h up e f =
    let same : x ≡ h = same_Some x h e in
    let later = after_merged x hss up.1 (λ j k a. subst (λ y. node_lt y.node k.node ≡ true) (sym same) ((f (suc j) k a).ahead (omega arith))) in
    let own = each_weaker (λ y. node_lt x.node y.node ≡ true) (λ y. node_lt y.node x.node ≡ false) (λ y m. node_order.one_way x.node y.node m) hs up.0.0 in
    ap (insert_all_in hs) (front_in x (merged hss) later) ∙ stays_first x hs (merged hss) own ∙ ap (λ y. y ∷ insert_all_in hs (merged hss)) same
first_merged (hs ∷ hss) (suc b) h up e f =
    let rest = first_merged hss b h up.1 e (λ j k a. let i = f (suc j) k a in record { behind = λ l. i.behind (omega (arith, l)); ahead = λ l. i.ahead (omega (arith, l)) }) in
    ap (insert_all_in hs) rest ∙ stays_first h hs (merged (without hss b)) (not_before_list h hs up.0 (λ k a. (f 0 k a).behind (omega arith)))

empty_list : (hs : List Held) → slice_get hs 0 ≡ None → hs ≡ []
empty_list [] e = refl
empty_list (h ∷ hs) e = absurd cc

-- nothing is left
pub none_merged : (hss : List (List Held)) → ((j : ℕ) → j < length hss → head_of hss j ≡ None) → merged hss ≡ []
none_merged [] f = refl
none_merged (hs ∷ hss) f =
    ap (λ xs. insert_all_in xs (merged hss)) (empty_list hs (f 0 (omega arith))) ∙ none_merged hss (λ j l. f (suc j) (omega (arith, l)))
