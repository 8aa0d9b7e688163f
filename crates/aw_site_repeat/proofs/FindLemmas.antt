-- Finding in a store by names.
use Rattle.std.proofs.Common.{◌≡◌, Bool, true, false, cond, List, [], ◌∷◌, Option, Some, None, refl, ap, ◌∙◌}
use Rattle.std.proofs.lemmas.Bool.{and_parts}
use Rattle.aw_term.specs.Names.{Ref, ref_eq}
use Rattle.aw_term.proofs.RefTests.{ref_eq-true}
use Rattle.aw_store.specs.Equations.{Body, Map, find}
use Rattle.aw_store.specs.NamedRefs.{is_named, has_names}

unnamed_cases : (b : Bool) (x : Body) (o : Option Body) → b ≡ false → o ≡ None → cond b (Some x) o ≡ None
unnamed_cases true x o e f = absurd cc
unnamed_cases false x o e f = f

not_left : (names : List Ref) (r l : Ref) (b : Bool) → ref_eq r l ≡ b → is_named names l ≡ true → is_named names r ≡ false → b ≡ false
not_left names r l true e f n = let t : is_named names r ≡ true = ap (is_named names) (ref_eq-true r l e) ∙ f in absurd cc
not_left names r l false e f n = refl

-- what is not named has no equation
pub find_unnamed : (names : List Ref) (k : Map) (r : Ref) → has_names names k ≡ true → is_named names r ≡ false → find k r ≡ None
find_unnamed names [] r h n = refl
find_unnamed names (e ∷ k) r h n =
    let (x, y) = and_parts _ _ h in
    unnamed_cases (ref_eq r e.left) e.body (find k r) (not_left names r e.left (ref_eq r e.left) refl (and_parts _ _ x).0 n) (find_unnamed names k r y n)
