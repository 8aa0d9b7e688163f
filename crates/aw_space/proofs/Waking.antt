-- What is kept, where an equation comes that rules waited for.
use Rattle.std.proofs.Common.{◌≡◌, ℕ, zero, suc, ◌+◌, ◌≤◌, Bool, true, false, cond, List, [], ◌∷◌, ◌++◌, length, map, take, drop, All, Some, None, is_some, slice_get, refl, ap, sym, ◌∙◌, subst, arith}
use Rattle.std.specs.Prelude.{◌||◌, option_and_then, sum_by}
use Rattle.std.proofs.lemmas.Bool.{and_parts, and_from}
use Rattle.std.proofs.lemmas.List.Elements.{All-cons, All-head, All-tail}
use Rattle.std.proofs.lemmas.List.Sums.{sum_by-cons}
use Rattle.aw_term.specs.Names.{Ref, ref_eq}
use Rattle.aw_term.specs.Rules.{Grammar}
use Rattle.aw_term.proofs.RefTests.{ref_eq-self, ref_eq-true}
use Rattle.aw_store.specs.Equations.{Equation, Map, find, mentions}
use Rattle.aw_store.specs.NamedRefs.{is_named, all_named, has_names, has_names_of, Grows, body_at, IsNamedOnce}
use Rattle.aw_store.proofs.MoreEquations.{find-left_more, find-right_more}
use Rattle.aw_store.specs.EquationView.{equation_of}
use Rattle.aw_store.specs.StoreView.{Adds}
use Rattle.aw_store.specs.declared.equation.Equation as program
use Rattle.aw_store.specs.declared.facts.Added.{Added}
use Rattle.aw_store.specs.declared.facts.Added.TheVariants.{New, Same, Conflict}
use Rattle.aw_choice.specs.declared.choice.Choice.{Choice}
use Rattle.aw_node_list.specs.InOrder.{done_at}
use Rattle.aw_node_list.specs.Row.{Row}
use Rattle.aw_node_list.specs.HeldView.{all_of}
use Rattle.aw_law_sites.specs.Receiving.{add_on}
use Rattle.aw_law_sites.specs.Worklists.{site_worklist}
use Rattle.aw_work.specs.Triples.{waiting_at}
use Rattle.aw_standing.specs.Items.{waiting_on}
use Rattle.aw_standing.proofs.ItemLemmas.{pairs_wait}
use Rattle.aw_standing.specs.declared.kept.Kept.{Kept}
use Rattle.aw_standing.specs.KeptStates.{AreKept, IsFitKept, IsKept, IsKeptBut, IsKeptDone, AreLate}
use Rattle.aw_standing.proofs.Growing.{fit_grows, kept_named, kept_grown}
use Rattle.aw_space.specs.Waking.{IsKnown, IsBound, left_of, lefts_of}

-- it stays fit where names come
pub fits_named : (g : Grammar) (names more : List Ref) (kept : Kept) → Grows names more → IsFitKept g names kept → IsFitKept g more kept
fits_named g names more kept grows (ns, f) =
    (ns, record { counted = f.counted; apart = f.apart; known = f.known; fit = λ i n x e u. fit_grows names more grows g x (f.fit i n x e u); waiting = f.waiting })

pub named_more : (g : Grammar) (row : Row) (k : Map) (names more : List Ref) (kept : Kept) → Grows names more → IsKept g row k names kept → IsKept g row k more kept
named_more g row k names more kept grows w = kept_named names more grows g row.items k [] row.numbers kept.records.items kept.work.waiting w

-- what is kept stays so where names come and the equations are the same
pub grown_same : (g : Grammar) (row : Row) (k l : Map) (names more : List Ref) (kept : Kept) → l ≡ k → Grows names more → IsKept g row k names kept → IsKept g row l more kept
grown_same g row k l names more kept is grows w = subst (λ m. IsKept g row m more kept) (sym is) (named_more g row k names more kept grows w)

-- and where the same nodes have the same numbers
pub kept_placed : (g : Grammar) (row new : Row) (k : Map) (names : List Ref) (kept : Kept) → new.items ≡ row.items → new.numbers ≡ row.numbers → IsKept g row k names kept → IsKept g new k names kept
kept_placed g row new k names kept is same w =
    subst (λ hs. AreKept g hs k names [] new.numbers kept.records.items kept.work.waiting) (sym is)
    (subst (λ ns. AreKept g row.items k names [] ns kept.records.items kept.work.waiting) (sym same) w)

-- and where a node was developed that was closed
pub closed_row : (g : Grammar) (row new : Row) (k : Map) (names : List Ref) (kept : Kept) (at : ℕ) (c : Choice) → new.items ≡ done_at c at row.items → new.numbers ≡ row.numbers →
    IsKeptDone g row at c k names [] kept → IsKept g new k names kept
closed_row g row new k names kept at c is same w =
    subst (λ hs. AreKept g hs k names [] new.numbers kept.records.items kept.work.waiting) (sym is)
    (subst (λ ns. AreKept g (done_at c at row.items) k names [] ns kept.records.items kept.work.waiting) (sym same) w)

-- an equation that is not new changes nothing
pub told_same : (k l : Map) (e : program.Equation) (a : Added) → Adds k e a l → (a ≡ New → ⊥) → l ≡ k
told_same k l e New w other = absurd (other refl)
told_same k l e Same w other = w.1
told_same k l e (Conflict kept came) w other = w.3

-- whatever adding comes to, the equations are then those with this one, where its left side had none
pub told_on : (k l : Map) (e : program.Equation) (a : Added) → Adds k e a l → l ≡ add_on (find k e.left) k (equation_of e)
told_on k l e New w = w.1 ∙ sym (ap (λ o. add_on o k (equation_of e)) w.0)
told_on k l e Same w = w.1 ∙ sym (ap (λ o. add_on o k (equation_of e)) w.0)
told_on k l e (Conflict kept came) w = w.3 ∙ sym (ap (λ o. add_on o k (equation_of e)) w.0)

-- the new left side has an equation
left_found : (k : Map) (e : Equation) → find k e.left ≡ None → find (k ++ e ∷ []) e.left ≡ Some e.body
left_found k e none = find-right_more k (e ∷ []) e.left none ∙ ap (λ b. cond b (Some e.body) None) (ref_eq-self e.left)

pub left_there : (k l : Map) (names : List Ref) (e : Equation) (slot : ℕ) → find k e.left ≡ None → l ≡ k ++ e ∷ [] → slice_get names slot ≡ Some e.left → is_some (body_at l names slot) ≡ true
left_there k l names e slot none is here =
    ap is_some (ap (option_and_then (find l)) here ∙ ap (λ m. find m e.left) is ∙ left_found k e none)

not_left : (r l : Ref) → (ref_eq r l || false) ≡ false → ref_eq r l ≡ false
not_left r l e = by (ref_eq r l) e
  where
    by : (b : Bool) → (b || false) ≡ false → b ≡ false
    by true e = absurd cc
    by false e = refl

-- only what waits for it is late
pub one_late : (k l : Map) (e : Equation) → l ≡ k ++ e ∷ [] → AreLate k l [] (e.left ∷ [])
one_late k l e is r other = (refl, λ none. ap (λ m. find m r) is ∙ find-right_more k (e ∷ []) r none ∙ ap (λ b. cond b (Some e.body) None) (not_left r e.left other))

pub grown_by : (g : Grammar) (row : Row) (k l : Map) (names : List Ref) (e : Equation) (kept : Kept) → l ≡ k ++ e ∷ [] → IsKept g row k names kept → IsKeptBut g row l names (e.left ∷ []) kept
grown_by g row k l names e kept is w =
    kept_grown k l names [] (e.left ∷ []) (λ r b f. subst (λ m. find m r ≡ Some b) (sym is) (find-left_more k (e ∷ []) r b f))
    (one_late k l e is) g row.items row.numbers kept.records.items kept.work.waiting w

-- ---- left sides in turn

pub all_here : (k : Map) (rs : List Ref) (i : ℕ) (r : Ref) → slice_get rs i ≡ Some r → All (IsKnown k) rs → is_some (find k r) ≡ true
all_here k [] i r here known = absurd cc
all_here k (x ∷ xs) zero r here known = let same : x ≡ r = cc in ap (λ (y : Ref). is_some (find k y)) (sym same) ∙ All-head (IsKnown k) x xs known
all_here k (x ∷ xs) (suc i) r here known = all_here k xs i r here (All-tail (IsKnown k) x xs known)

sum_taken : (most : Ref → ℕ) (rs : List Ref) (i : ℕ) (r : Ref) → slice_get rs i ≡ Some r → sum_by most (take (suc i) rs) ≡ sum_by most (take i rs) + most r
sum_taken most [] i r here = absurd cc
sum_taken most (x ∷ xs) zero r here = let same : x ≡ r = cc in ap (λ (y : Ref). 0 + most y) same
sum_taken most (x ∷ xs) (suc i) r here = omega (arith, sum_by-cons most x (take (suc i) xs), sum_by-cons most x (take i xs), sum_taken most xs i r here)

pub one_taken : (most : Ref → ℕ) (rs : List Ref) (i : ℕ) (r : Ref) → slice_get rs i ≡ Some r → sum_by most (take (i + 1) rs) ≡ sum_by most (take i rs) + most r
one_taken most rs i r here = let one : i + 1 ≡ suc i = omega arith in ap (λ n. sum_by most (take n rs)) one ∙ sum_taken most rs i r here

pub all_dropped : (rs : List Ref) (i : ℕ) → length rs ≤ i → drop i rs ≡ []
all_dropped [] zero l = refl
all_dropped [] (suc i) l = refl
all_dropped (x ∷ xs) zero l = absurd (omega (arith, l))
all_dropped (x ∷ xs) (suc i) l = all_dropped xs i (omega (arith, l))

-- a reference with an equation is named
pub found_named : (names : List Ref) (k : Map) (r : Ref) → has_names names k ≡ true → is_some (find k r) ≡ true → is_named names r ≡ true
found_named names [] r h e = absurd cc
found_named names (x ∷ xs) r h e = by (found_named names xs r (and_parts (has_names_of names x) (has_names names xs) h).1) (ref_eq r x.left) refl e
  where
    left : is_named names x.left ≡ true
    left = (and_parts (is_named names x.left) (all_named names (mentions x.body)) (and_parts (has_names_of names x) (has_names names xs) h).0).0

    by : (is_some (find xs r) ≡ true → is_named names r ≡ true) → (b : Bool) → ref_eq r x.left ≡ b → is_some (cond b (Some x.body) (find xs r)) ≡ true → is_named names r ≡ true
    by go true t e = ap (is_named names) (ref_eq-true r x.left t) ∙ left
    by go false t e = go e

-- ---- several equations at once

none_there : (es : List program.Equation) (r : Ref) → is_named (map left_of es) r ≡ false → find (map equation_of es) r ≡ None
none_there [] r e = refl
none_there (x ∷ xs) r e = by (ref_eq r x.left) (none_there xs r) e
  where
    by : (b : Bool) → (is_named (map left_of xs) r ≡ false → find (map equation_of xs) r ≡ None) → (b || is_named (map left_of xs) r) ≡ false →
        cond b (Some (equation_of x).body) (find (map equation_of xs) r) ≡ None
    by true go e = absurd cc
    by false go e = go e

pub all_late : (k l : Map) (es : List program.Equation) → l ≡ k ++ map equation_of es → AreLate k l [] (map left_of es)
all_late k l es is r other = (refl, λ none. ap (λ m. find m r) is ∙ find-right_more k (map equation_of es) r none ∙ none_there es r other)

pub grown_by_all : (g : Grammar) (row : Row) (k l : Map) (names : List Ref) (es : List program.Equation) (kept : Kept) → l ≡ k ++ map equation_of es → IsKept g row k names kept →
    IsKeptBut g row l names (map left_of es) kept
grown_by_all g row k l names es kept is w =
    kept_grown k l names [] (map left_of es) (λ r b f. subst (λ m. find m r ≡ Some b) (sym is) (find-left_more k (map equation_of es) r b f))
    (all_late k l es is) g row.items row.numbers kept.records.items kept.work.waiting w

found_in : (es : List program.Equation) (i : ℕ) (e : program.Equation) → slice_get es i ≡ Some e → is_some (find (map equation_of es) e.left) ≡ true
found_in [] i e here = absurd cc
found_in (x ∷ xs) zero e here =
    let same : x ≡ e = cc in
    ap (λ (y : program.Equation). is_some (find (map equation_of (x ∷ xs)) y.left)) (sym same)
    ∙ ap (λ b. is_some (cond b (Some (equation_of x).body) (find (map equation_of xs) x.left))) (ref_eq-self x.left)
found_in (x ∷ xs) (suc i) e here = by (ref_eq e.left x.left) (found_in xs i e here)
  where
    by : (b : Bool) → is_some (find (map equation_of xs) e.left) ≡ true → is_some (cond b (Some (equation_of x).body) (find (map equation_of xs) e.left)) ≡ true
    by true go = refl
    by false go = go

found_more : (k es : Map) (r : Ref) → is_some (find es r) ≡ true → is_some (find (k ++ es) r) ≡ true
found_more [] es r e = e
found_more (x ∷ k) es r e = by (ref_eq r x.left) (found_more k es r e)
  where
    by : (b : Bool) → is_some (find (k ++ es) r) ≡ true → is_some (cond b (Some x.body) (find (k ++ es) r)) ≡ true
    by true go = refl
    by false go = go

all_in : (P : Ref → Type 0) (es : List program.Equation) → ((i : ℕ) (e : program.Equation) → slice_get es i ≡ Some e → P e.left) → All P (map left_of es)
all_in P [] f = λ i d l. absurd (omega (arith, l))
all_in P (x ∷ xs) f = All-cons P x.left (map left_of xs) (f 0 x refl) (all_in P xs (λ i e here. f (suc i) e here))

pub all_known : (k l : Map) (es : List program.Equation) → l ≡ k ++ map equation_of es → All (IsKnown l) (map left_of es)
all_known k l es is = all_in (IsKnown l) es (λ i e here. ap (λ m. is_some (find m e.left)) is ∙ found_more k (map equation_of es) e.left (found_in es i e here))

pub sum_lefts : (most : Ref → ℕ) (es : List program.Equation) → sum_by most (map left_of es) ≡ sum_by (λ (e : Equation). most e.left) (map equation_of es)
sum_lefts most [] = refl
sum_lefts most (x ∷ xs) =
    omega (arith, sum_by-cons most x.left (map left_of xs), sum_by-cons (λ (e : Equation). most e.left) (equation_of x) (map equation_of xs), sum_lefts most xs)

-- where a node was closed, no more rules wait for a reference than the worklist showed
pub closed_bound : (g : Grammar) (row : Row) (k l : Map) (names : List Ref) (old new : Kept) → IsNamedOnce names →
    ((q : ℕ) → waiting_at q new.work.waiting ≤ waiting_at q old.work.waiting) → IsKept g row k names old →
    IsBound l names new (λ r. waiting_on r (site_worklist g k (all_of g row.items)))
closed_bound g row k l names old new once fewer w slot r here known =
    omega (arith, fewer slot, pairs_wait names once slot r here g k row.items row.numbers old.records.items old.work.waiting w)

-- ---- left sides that are named

pub lefts_named : (names : List Ref) (k : Map) → has_names names k ≡ true → all_named names (lefts_of k) ≡ true
lefts_named names [] w = refl
lefts_named names (e ∷ k) w =
    let (here, rest) = and_parts (has_names_of names e) (has_names names k) w in
    and_from _ _ (and_parts (is_named names e.left) (all_named names (mentions e.body)) here).0 (lefts_named names k rest)
