-- Names by number, and texts of places.
use Rattle.std.proofs.Common.{◌≡◌, ℕ, zero, suc, refl, sym, ap, ◌∙◌, List, [], ◌∷◌, ◌++◌, map, flat_map, codes, append_assoc, option_map, slice_get}
use Rattle.std.specs.Prelude.{unwrap_or, Result, Ok, Err, OnOk}
use Rattle.std.specs.Fmt.{decimal}
use Rattle.std.proofs.lemmas.List.{append-nil}
use Rattle.aw_term.specs.Rules.{get}
use Rattle.aw_term.specs.Artifacts.{joined, place_text}

pub name_at : (names : List (List ℕ)) (i : ℕ) → get [] names i ≡ unwrap_or (slice_get names i) []
name_at [] i = refl
name_at (x ∷ xs) zero = refl
name_at (x ∷ xs) (suc i) = name_at xs i

pub name_of_at : {A : Type 0} (f : A → List ℕ) (xs : List A) (i : ℕ) → get [] (map f xs) i ≡ unwrap_or (option_map f (slice_get xs i)) []
name_of_at f [] i = refl
name_of_at f (x ∷ xs) zero = refl
name_of_at f (x ∷ xs) (suc i) = name_of_at f xs i

abbrev pub stops : List ℕ → List ℕ
stops ks = flat_map (λ k. codes "." ++ decimal k) ks

joined_from : (t : List ℕ) (ks : List ℕ) → joined (codes ".") (t ∷ map decimal ks) ≡ t ++ stops ks
joined_from t [] = sym (append-nil t)
joined_from t (k ∷ ks) = ap (λ rest. t ++ (codes "." ++ rest)) (joined_from (decimal k) ks) ∙ ap (λ rest. t ++ rest) (sym (append_assoc (codes ".") (decimal k) (stops ks)))

place_from : (attribute : ℕ) (path : List ℕ) → place_text (attribute ∷ path) ≡ decimal attribute ++ stops path
place_from attribute path = joined_from (decimal attribute) path

-- a place is added by its attribute and then its path
pub place_added : {A E : Type 0} (r : Result A E) (old mid new : List ℕ) (attribute : ℕ) (path steps : List ℕ) → mid ≡ old ++ decimal attribute → steps ≡ path
    → OnOk r (new ≡ mid ++ stops steps) → OnOk r (new ≡ old ++ place_text (attribute ∷ path))
place_added (Ok u) old mid new attribute path steps m s h =
    h ∙ ap (λ t. t ++ stops steps) m ∙ ap (λ ks. (old ++ decimal attribute) ++ stops ks) s
    ∙ append_assoc old (decimal attribute) (stops path) ∙ ap (λ t. old ++ t) (sym (place_from attribute path))
place_added (Err e) old mid new attribute path steps m s h = tt
