-- What holds of a store that scans a list.
use Rattle.std.proofs.Common.{◌≡◌, ℕ, ◌<◌, Bool, true, false, List, [], ◌∷◌, ◌++◌, length, map, get_or, Option, Some, None, refl, ap, sym, ◌∙◌, subst, arith, cond}
use Rattle.std.specs.Prelude.{slice_get, option_map, option_and_then, nat_le}
use Rattle.std.proofs.lemmas.Option.{slice_get-get_or, slice_get_within}
use Rattle.std.proofs.lemmas.Bool.{and_parts, and_from}
use Rattle.aw_term.specs.Names.{Ref}
use Rattle.aw_term.specs.Limits.{most_parts}
use Rattle.aw_store.specs.Refs.{ref_eq}
use Rattle.aw_store.specs.Equations as P
use Rattle.aw_store.specs.Equations.{Map, find, mentions}
use Rattle.aw_store.specs.EquationView.{body_of, equation_of}
use Rattle.aw_store.specs.NamedRefs.{is_named, all_named, has_names_of, has_names, body_at, con_parts, parts_at}
use Rattle.aw_store.specs.StoreView.{has_few, all_few, IsKindOf}
use Rattle.aw_store.specs.declared.facts.Kind.{Kind}
use Rattle.aw_store.specs.declared.equation.Body.{Body}
use Rattle.aw_store.specs.declared.equation.Equation.{Equation}

-- the body of a name, and of its slot
pub at_slot : (es s : List Equation) (names : List Ref) (slot : ℕ) (n : Ref) (o : Option Body) → s ≡ es → n ≡ get_or names slot n →
    slot < length names → option_map body_of o ≡ find (map equation_of s) n → body_at (map equation_of es) names slot ≡ option_map body_of o
at_slot es s names slot n o e f l w =
    ap (option_and_then (find (map equation_of es))) (slice_get-get_or names slot n l ∙ ap Some (sym f))
    ∙ sym (w ∙ ap (λ x. find (map equation_of x) n) e)

-- a slot with parts is a live one
pub live_slot : (k : Map) (names : List Ref) (slot n : ℕ) → n < length (parts_at k names slot) → slot < length names
live_slot k names slot n l = by_name (slice_get names slot) refl l
  where
    by_name : (o : Option Ref) → slice_get names slot ≡ o → n < length (con_parts (option_and_then (find k) o)) → slot < length names
    by_name None e l = absurd (omega (arith, l))
    by_name (Some r) e l = slice_get_within names slot r e

found_names : (b : Bool) (names : List Ref) (e : P.Equation) (k : Map) (r : Ref) (x : P.Body) → cond b (Some e.body) (find k r) ≡ Some x →
    has_names_of names e ≡ true → (find k r ≡ Some x → all_named names (mentions x) ≡ true) → all_named names (mentions x) ≡ true
found_names true names e k r x f w go = let p : e.body ≡ x = cc in ap (λ y. all_named names (mentions y)) (sym p) ∙ (and_parts (is_named names e.left) _ w).1
found_names false names e k r x f w go = go f

pub find-named : (names : List Ref) (k : Map) (r : Ref) (x : P.Body) → has_names names k ≡ true → find k r ≡ Some x → all_named names (mentions x) ≡ true
find-named names [] r x w f = absurd cc
find-named names (e ∷ k) r x w f =
    let (a, b) = and_parts (has_names_of names e) _ w in
    found_names (ref_eq r e.left) names e k r x f a (find-named names k r x b)

found_few : (b : Bool) (e : P.Equation) (k : Map) (r : Ref) (x : P.Body) → cond b (Some e.body) (find k r) ≡ Some x → has_few e ≡ true →
    (find k r ≡ Some x → nat_le (length (mentions x)) most_parts ≡ true) → nat_le (length (mentions x)) most_parts ≡ true
found_few true e k r x f w go = let p : e.body ≡ x = cc in ap (λ y. nat_le (length (mentions y)) most_parts) (sym p) ∙ w
found_few false e k r x f w go = go f

pub find-few : (k : Map) (r : Ref) (x : P.Body) → all_few k ≡ true → find k r ≡ Some x → nat_le (length (mentions x)) most_parts ≡ true
find-few [] r x w f = absurd cc
find-few (e ∷ k) r x w f =
    let (a, b) = and_parts (has_few e) _ w in
    found_few (ref_eq r e.left) e k r x f a (find-few k r x b)

pub all_few-push : (k : Map) (e : P.Equation) → all_few k ≡ true → has_few e ≡ true → all_few (k ++ e ∷ []) ≡ true
all_few-push [] e w v = and_from _ _ v refl
all_few-push (x ∷ k) e w v =
    let (a, b) = and_parts (has_few x) _ w in
    and_from _ _ a (all_few-push k e b v)

-- a body that is found at a slot
pub found_named : (names : List Ref) (k : Map) (slot : ℕ) (x : P.Body) → has_names names k ≡ true → body_at k names slot ≡ Some x → all_named names (mentions x) ≡ true
found_named names k slot x w = by_name (slice_get names slot)
  where
    by_name : (o : Option Ref) → option_and_then (find k) o ≡ Some x → all_named names (mentions x) ≡ true
    by_name None f = absurd cc
    by_name (Some r) f = find-named names k r x w f

pub found_small : (names : List Ref) (k : Map) (slot : ℕ) (x : P.Body) → all_few k ≡ true → body_at k names slot ≡ Some x → nat_le (length (mentions x)) most_parts ≡ true
found_small names k slot x w = by_name (slice_get names slot)
  where
    by_name : (o : Option Ref) → option_and_then (find k) o ≡ Some x → nat_le (length (mentions x)) most_parts ≡ true
    by_name None f = absurd cc
    by_name (Some r) f = find-few k r x w f

-- a body that was found gives what stands at the slot
pub kind_seen : (ns ms : List Ref) (b c : Option P.Body) (k : Kind) → ns ≡ ms → b ≡ c → IsKindOf ns c k → IsKindOf ms b k
kind_seen ns ms b c k e f w = subst (λ x. IsKindOf ms x k) (sym f) (subst (λ x. IsKindOf x c k) e w)

pub no_part : (k : ℕ) (b : Option P.Body) → b ≡ None → k < length (con_parts b) → ⊥
no_part k b e l = let f : length (con_parts b) ≡ 0 = ap (λ x. length (con_parts x)) e in omega (arith, l, f)
