-- A pair that does not stand yet goes last.
use Rattle.std.proofs.Common.{◌≡◌, ℕ, Bool, true, false, cond, List, [], ◌∷◌, ◌++◌, ◌&&◌, ◌||◌, nat_eq, refl, sym, ap, ◌∙◌, eq-eqb}
use Rattle.std.proofs.lemmas.Bool.{eqb-true}
use Rattle.std.specs.List.{list_any}
use Rattle.aw_face.specs.declared.faces.Using.{Using}
use Rattle.aw_face.specs.Faces.{is_used, same_use}

-- numbers are compared the same both ways round
pub turned : (a b : ℕ) → nat_eq a b ≡ nat_eq b a
turned a b = both_tests (nat_eq a b) (nat_eq b a) (λ e. eq-eqb b a (sym (eqb-true a b e))) (λ e. eq-eqb a b (sym (eqb-true b a e)))
  where
    both_tests : (b c : Bool) → (b ≡ true → c ≡ true) → (c ≡ true → b ≡ true) → b ≡ c
    both_tests true c f g = sym (f refl)
    both_tests false true f g = g refl
    both_tests false false f g = refl

-- a pair stands where one of the pairs is the same as it
stands : (u : Using) (uses : List Using) → list_any (same_use u) uses ≡ is_used u.role u.sort uses
stands u [] = refl
stands u (v ∷ uses) = λ i. (turned u.role v.role i && turned u.sort v.sort i) || stands u uses i

pub goes_last : (u : Using) (uses keys new : List Using) → keys ≡ uses → is_used u.role u.sort uses ≡ false → new ≡ cond (list_any (same_use u) keys) keys (keys ++ u ∷ []) → new ≡ uses ++ u ∷ []
goes_last u uses keys new listed none inserted =
    let absent : list_any (same_use u) keys ≡ false = ap (λ us. list_any (same_use u) us) listed ∙ stands u uses ∙ none in
    inserted ∙ ap (λ b. cond b keys (keys ++ u ∷ [])) absent ∙ ap (λ us. us ++ u ∷ []) listed
