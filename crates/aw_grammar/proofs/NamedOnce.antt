-- Names that differ stand once.
use Rattle.std.proofs.Common.{◌≡◌, ◌≢◌, Bool, true, false, List, ℕ, [], ◌∷◌, ◌++◌, ◌||◌, refl, ap, sym, ◌∙◌}
use Rattle.std.proofs.Math.Bool.{Bool-set}
use Rattle.std.proofs.Math.Logic.{∥∥₁_elim}
use Rattle.std.proofs.lemmas.Bool.{or_parts}
use Rattle.aw_name_index.specs.Places.{is_same, stands, stands_again, has_double}
use Rattle.aw_name_index.proofs.Same.{same_is}
use Rattle.aw_term.specs.WellFormed.{Each, Differ}

not_true : (b : Bool) → (b ≢ true) → b ≡ false
not_true true h = absurd (h refl)
not_true false h = refl

-- a name that stands in no part of a list does not stand in it
stands_more : (n x : List ℕ) (seen : List (List ℕ)) → stands n seen ≡ false → is_same n x ≡ false → stands n (seen ++ x ∷ []) ≡ false
stands_more n x [] h other = ap (λ b. b || false) other
stands_more n x (y ∷ seen) h other =
    let parts = or_parts (is_same n y) (stands n seen) h in
    ap (λ b. b || stands n (seen ++ x ∷ [])) parts.0 ∙ stands_more n x seen parts.1 other

-- names that do not stand in a list, and are not the next, do not stand in the list with the next
all_apart : (x : List ℕ) (seen names : List (List ℕ)) → Each (λ n. stands n seen ≡ false) names → Each (λ n. x ≢ n) names → Each (λ n. stands n (seen ++ x ∷ []) ≡ false) names
all_apart x seen [] apart others = tt
all_apart x seen (n ∷ names) apart others =
    (stands_more n x seen apart.0 (not_true (is_same n x) (λ e. others.0 (sym (same_is n x e)))), all_apart x seen names apart.1 others.1)

-- names that differ, of which none was seen, do not stand again
none_again : (seen names : List (List ℕ)) → Each (λ n. stands n seen ≡ false) names → Differ names → stands_again seen names ≡ false
none_again seen [] apart differ = refl
none_again seen (x ∷ names) apart differ =
    ap (λ b. b || stands_again (seen ++ x ∷ []) names) apart.0 ∙ none_again (seen ++ x ∷ []) names (all_apart x seen names apart.1 differ.0) differ.1

none_in_none : (names : List (List ℕ)) → Each (λ n. stands n [] ≡ false) names
none_in_none [] = tt
none_in_none (n ∷ names) = (refl, none_in_none names)

-- names that differ have no double
pub named_once : (names : List (List ℕ)) → Differ names → has_double names ≡ false
named_once names differ = none_again [] names (none_in_none names) differ

-- the same where only that some P holds is known, and P says that they differ
pub once : {P : Type 0} (names : List (List ℕ)) → ∥ P ∥₁ → (P → Differ names) → has_double names ≡ false
once names good differ = ∥∥₁_elim good (Bool-set _ _) (λ w. named_once names (differ w))
