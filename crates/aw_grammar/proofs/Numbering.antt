-- Variables numbered in the order in which they enter.
use Rattle.std.proofs.Common.{◌≡◌, ℕ, suc, ◌<◌, true, false, cond, List, [], ◌∷◌, ◌++◌, length, map, Some, option_map, refl, sym, ap, ◌∙◌, arith, append_assoc, length-append}
use Rattle.std.proofs.lemmas.Bool.{and_parts, or_parts}
use Rattle.aw_name_index.specs.Places.{is_same, place_of, or_else, number_of, stands, stands_again, has_double, all_stand}
use Rattle.aw_name_index.proofs.Lookups.{number_within}
use Rattle.aw_name_index.proofs.Same.{same_self}
use Rattle.aw_term.specs.Rules.{upto}
use Rattle.aw_term.specs.WellFormed.{Each}

place_new : (x : List ℕ) (seen ys : List (List ℕ)) → stands x seen ≡ false → place_of x (seen ++ x ∷ ys) ≡ Some (length seen)
place_new x [] ys h = ap (λ b. cond b (Some 0) (option_map (λ k. suc k) (place_of x ys))) (same_self x)
place_new x (s ∷ seen) ys h =
    let apart = or_parts (is_same x s) (stands x seen) h in
    ap (λ b. cond b (Some 0) (option_map (λ k. suc k) (place_of x (seen ++ x ∷ ys)))) apart.0
    ∙ ap (λ o. option_map (λ k. suc k) o) (place_new x seen ys apart.1)

number_new : (x : List ℕ) (seen ys : List (List ℕ)) → stands x seen ≡ false → number_of x (seen ++ x ∷ ys) ≡ length seen
number_new x seen ys h = ap (or_else (length (seen ++ x ∷ ys))) (place_new x seen ys h)

numbers_from : (seen xs rest : List (List ℕ)) → stands_again seen (xs ++ rest) ≡ false → map (λ x. number_of x (seen ++ (xs ++ rest))) xs ≡ upto (length seen) (length xs)
numbers_from seen [] rest h = refl
numbers_from seen (x ∷ xs) rest h =
    let parts = or_parts (stands x seen) (stands_again (seen ++ x ∷ []) (xs ++ rest)) h in
    let later = numbers_from (seen ++ x ∷ []) xs rest parts.1 in
    let same : (seen ++ x ∷ []) ++ (xs ++ rest) ≡ seen ++ x ∷ (xs ++ rest) = append_assoc seen (x ∷ []) (xs ++ rest) in
    let longer : length (seen ++ x ∷ []) ≡ suc (length seen) = omega (arith, length-append seen (x ∷ [])) in
    ap (λ n. n ∷ map (λ y. number_of y (seen ++ x ∷ (xs ++ rest))) xs) (number_new x seen (xs ++ rest) parts.0)
    ∙ ap (λ ns. length seen ∷ ns) (ap (λ names. map (λ y. number_of y names) xs) (sym same) ∙ later ∙ ap (λ n. upto n (length xs)) longer)

-- where no name stands twice, those that come first have the first numbers
pub numbers_first : (xs rest : List (List ℕ)) → has_double (xs ++ rest) ≡ false → map (λ x. number_of x (xs ++ rest)) xs ≡ upto 0 (length xs)
numbers_first xs rest h = numbers_from [] xs rest h

-- names that stand have numbers below the length
pub numbers_below : (xs names : List (List ℕ)) → all_stand xs names ≡ true → Each (λ v. v < length names) (map (λ x. number_of x names) xs)
numbers_below [] names h = tt
numbers_below (x ∷ xs) names h =
    let parts = and_parts (stands x names) (all_stand xs names) h in
    (number_within x names parts.0, numbers_below xs names parts.1)
