-- What looking a name up says.
use Rattle.std.proofs.Common.{◌≡◌, ℕ, zero, suc, ◌<◌, arith, refl, sym, ap, ◌∙◌, true, false, List, [], ◌∷◌, length, Some, None, is_some, slice_get}
use Rattle.aw_name_index.specs.Places.{number_of, stands, or_else}
use Rattle.aw_name_index.proofs.Lookups.{stands_is_placed, place_within}
use Rattle.aw_grammar.specs.Named.{number_named}
use Rattle.aw_grammar.proofs.Numbers.{number_is_place}

pub unnamed : (names : List (List ℕ)) (x : List ℕ) → None ≡ number_named names x → stands x names ≡ false
unnamed names x e = sym (stands_is_placed x names) ∙ ap is_some (number_is_place names x ∙ sym e)

pub named_stands : (names : List (List ℕ)) (x : List ℕ) (i : ℕ) → Some i ≡ number_named names x → stands x names ≡ true
named_stands names x i e = sym (stands_is_placed x names) ∙ ap is_some (number_is_place names x ∙ sym e)

pub named_number : (names : List (List ℕ)) (x : List ℕ) (i : ℕ) → Some i ≡ number_named names x → number_of x names ≡ i
named_number names x i e = ap (or_else (length names)) (number_is_place names x ∙ sym e)

pub named_within : (names : List (List ℕ)) (x : List ℕ) (i : ℕ) → Some i ≡ number_named names x → i < length names
named_within names x i e = place_within x names i (number_is_place names x ∙ sym e)

-- an item is found below the length
pub found_below : {A : Type 0} (xs : List A) (i : ℕ) → i < length xs → is_some (slice_get xs i) ≡ true
found_below [] i h = absurd (omega arith)
found_below (x ∷ xs) zero h = refl
found_below (x ∷ xs) (suc i) h = found_below xs i (omega arith)
