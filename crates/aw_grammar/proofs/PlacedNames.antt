-- A name among names that differ stands at its own place.
use Rattle.std.proofs.Common.{◌≡◌, ◌≢◌, ℕ, zero, suc, ◌<◌, refl, sym, ap, ◌∙◌, Bool, true, false, cond, List, [], ◌∷◌, length, Some, option_map, arith}
use Rattle.aw_name_index.specs.Places.{is_same, place_of}
use Rattle.aw_name_index.proofs.Same.{same_self, same_is}
use Rattle.aw_term.specs.Rules.{get}
use Rattle.aw_term.specs.WellFormed.{Differ}
use Rattle.aw_term.proofs.Eaches.{each_get}

pub not_same : (x y : List ℕ) → y ≢ x → is_same x y ≡ false
not_same x y apart = by_test (is_same x y) refl
  where
    by_test : (t : Bool) → is_same x y ≡ t → is_same x y ≡ false
    by_test true e = absurd (apart (sym (same_is x y e)))
    by_test false e = e

pub place_again : (names : List (List ℕ)) (i : ℕ) → Differ names → i < length names → place_of (get [] names i) names ≡ Some i
place_again [] i differ less = absurd (omega (arith, less))
place_again (x ∷ xs) zero differ less = ap (λ b. cond b (Some 0) (option_map (λ k. suc k) (place_of x xs))) (same_self x)
place_again (x ∷ xs) (suc i) differ less =
    let name = get [] xs i in
    let apart : x ≢ name = each_get (λ b. x ≢ b) [] xs i differ.0 (omega (arith, less)) in
    ap (λ b. cond b (Some 0) (option_map (λ k. suc k) (place_of name xs))) (not_same name x apart)
    ∙ ap (option_map (λ k. suc k)) (place_again xs i differ.1 (omega (arith, less)))
