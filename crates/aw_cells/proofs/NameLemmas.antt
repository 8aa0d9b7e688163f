-- Looking names up.
use Rattle.std.proofs.Common.{◌≡◌, ℕ, suc, ◌+◌, ◌≤◌, Bool, true, false, cond, List, [], ◌∷◌, ◌++◌, length, Option, Some, None, refl, ap, sym, ◌∙◌, subst, arith, MatchOption, position}
use Rattle.std.specs.Prelude.{slice_get, ◌||◌, is_some, IsSome}
use Rattle.std.specs.List.{position_from, list_any}
use Rattle.std.proofs.lemmas.Iterator.Adapters.{position_from-zero}
use Rattle.std.proofs.lemmas.Bool.{and_parts, both_ways}
use Rattle.aw_name.specs.contracts.node.RefPartialEq.TheImpl as reference
use Rattle.aw_term.specs.Names.{Ref}
use Rattle.aw_store.specs.Refs.{ref_eq}
use Rattle.aw_store.specs.Equations.{Map, find}
use Rattle.aw_store.specs.NamedRefs.{is_named, has_names_of, has_names, Grows}
use Rattle.aw_name.specs.SameRefs.{ref_same}
use Rattle.aw_term.proofs.RefTests.{ref_eq-true}
use Rattle.std.proofs.lemmas.List.{length-append}
use Rattle.aw_cells.specs.StoredBodies.{refs_of, all_below}
use Rattle.aw_cells.proofs.BodyLemmas.{refs_of-grown}

abbrev pub key_eq : Ref → Ref → Bool
key_eq = (reference.ghosts).eq

pub key_is : (a b : Ref) → key_eq a b ≡ ref_eq a b
key_is a b = ref_same a b

pub any_named : (ns : List Ref) (r : Ref) → list_any (key_eq r) ns ≡ is_named ns r
any_named [] r = refl
any_named (n ∷ ns) r = λ i. key_is r n i || any_named ns r i

-- where a name stands, at least so far
abbrev IsPlace : List Ref → Ref → ℕ → Option ℕ → Type 0
IsPlace ns r i o = MatchOption o (is_named ns r ≡ false) (λ s. (j : ℕ) × (s ≡ i + j) × (slice_get ns j ≡ Some r))

next_place : (ns : List Ref) (n r : Ref) (i : ℕ) (o : Option ℕ) → ref_eq r n ≡ false → IsPlace ns r (i + 1) o → IsPlace (n ∷ ns) r i o
next_place ns n r i None f w = ap (λ t. t || is_named ns r) f ∙ w
next_place ns n r i (Some s) f w = (suc w.0, omega (arith, w.1), w.2)

place_from : (ns : List Ref) (r : Ref) (i : ℕ) → IsPlace ns r i (position_from (key_eq r) i ns)
place_from [] r i = refl
place_from (n ∷ ns) r i = by (key_eq r n) refl (place_from ns r (i + 1))
  where
    by : (t : Bool) → key_eq r n ≡ t → IsPlace ns r (i + 1) (position_from (key_eq r) (i + 1) ns) → IsPlace (n ∷ ns) r i (cond t (Some i) (position_from (key_eq r) (i + 1) ns))
    by true f w = (0, omega arith, ap Some (sym (ref_eq-true r n (sym (key_is r n) ∙ f))))
    by false f w = next_place ns n r i _ (sym (key_is r n) ∙ f) w

place_at : (ns : List Ref) (r : Ref) (o : Option ℕ) → IsPlace ns r 0 o → MatchOption o (is_named ns r ≡ false) (λ s. slice_get ns s ≡ Some r)
place_at ns r None w = w
place_at ns r (Some s) w = let e : s ≡ w.0 = omega (arith, w.1) in ap (slice_get ns) e ∙ w.2

pub place_is : (ns : List Ref) (r : Ref) (o : Option ℕ) → o ≡ position (key_eq r) ns → MatchOption o (is_named ns r ≡ false) (λ s. slice_get ns s ≡ Some r)
place_is ns r o e = place_at ns r o (subst (IsPlace ns r 0) (sym (e ∙ position_from-zero (key_eq r) ns)) (place_from ns r 0))

pub pushed_name : (ns new : List Ref) (r k : Ref) → k ≡ r → is_named ns r ≡ false → new ≡ cond (list_any (key_eq k) ns) ns (ns ++ k ∷ []) → new ≡ ns ++ r ∷ []
pushed_name ns new r k e f g = g ∙ ap (λ x. cond (list_any (key_eq x) ns) ns (ns ++ x ∷ [])) e ∙ ap (λ t. cond t ns (ns ++ r ∷ [])) (any_named ns r ∙ f)

-- Names that have grown
pub refs_of-grows : (ns ms : List Ref) (ss : List ℕ) → Grows ns ms → all_below (length ns) ss ≡ true → refs_of ms ss ≡ refs_of ns ss
refs_of-grows ns ms ss (more, e) w = ap (λ x. refs_of x ss) e ∙ refs_of-grown ns more ss w

pub length-grows : (ns ms : List Ref) → Grows ns ms → length ns ≤ length ms
length-grows ns ms (more, e) = omega (arith, ap length e, length-append ns more)

pub find-unnamed : (ns : List Ref) (k : Map) (r : Ref) → has_names ns k ≡ true → is_named ns r ≡ false → find k r ≡ None
find-unnamed ns [] r w f = refl
find-unnamed ns (e ∷ k) r w f = by (ref_eq r e.left) refl (find-unnamed ns k r (and_parts (has_names_of ns e) _ w).1 f)
  where
    by : (t : Bool) → ref_eq r e.left ≡ t → find k r ≡ None → cond t (Some e.body) (find k r) ≡ None
    by true g h = absurd (both_ways (is_named ns r) f (ap (is_named ns) (ref_eq-true r e.left g) ∙ (and_parts (is_named ns e.left) _ (and_parts (has_names_of ns e) _ w).0).0))
    by false g h = h

pub named-found : (ns : List Ref) (k : Map) (r : Ref) → has_names ns k ≡ true → IsSome (find k r) → is_named ns r ≡ true
named-found ns k r w s = by (is_named ns r) refl
  where
    by : (t : Bool) → is_named ns r ≡ t → is_named ns r ≡ true
    by true e = e
    by false e = absurd (both_ways (is_some (find k r)) (ap is_some (find-unnamed ns k r w e)) s)
