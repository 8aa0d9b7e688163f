-- How many of some places are set, and which is the first that is not.
use Rattle.std.proofs.Common.{Bool, List, None, Some, [], ap, arith, false, length, map, refl, suc, true, zero, ℕ, ◌++◌, ◌+◌, ◌∷◌, ◌≡◌, ◌≤◌}
use Rattle.std.specs.Prelude.{slice_get, slice_set}
use Rattle.std.proofs.lemmas.Option.{same_Some}
use Rattle.aw_law_sites.specs.Worlds.{count_set, first_false}

pub count_within : (ds : List Bool) → count_set ds ≤ length ds
count_within [] = omega arith
count_within (true ∷ ds) = let i = count_within ds in omega (arith, i)
count_within (false ∷ ds) = let i = count_within ds in omega (arith, i)

-- where all are set, none is the first that is not
pub count_all : (ds : List Bool) (i : ℕ) → length ds ≤ count_set ds → first_false i ds ≡ None
count_all [] i l = refl
count_all (true ∷ ds) i l = count_all ds (suc i) (omega arith)
count_all (false ∷ ds) i l = let z = count_within ds in absurd (omega (arith, z, l))

pub first_place : (ds : List Bool) (i k : ℕ) → first_false i ds ≡ Some k → (j : ℕ) × (k ≡ i + j) × (slice_get ds j ≡ Some false)
first_place [] i k e = absurd cc
first_place (false ∷ ds) i k e = let p : i ≡ k = same_Some _ _ e in (0, omega (arith, p), refl)
first_place (true ∷ ds) i k e = let (j, p, f) = first_place ds (suc i) k e in (suc j, omega (arith, p), f)

-- one more is set
pub count_new : (ds : List Bool) (j : ℕ) → slice_get ds j ≡ Some false → count_set (slice_set ds j true) ≡ suc (count_set ds)
count_new [] j e = absurd cc
count_new (true ∷ ds) zero e = absurd cc
count_new (false ∷ ds) zero e = refl
count_new (true ∷ ds) (suc j) e = ap suc (count_new ds j e)
count_new (false ∷ ds) (suc j) e = count_new ds j e

-- places that come are not set
pub count_unset : {A : Type 0} (ds : List Bool) (xs : List A) → count_set (ds ++ map (λ x. false) xs) ≡ count_set ds
count_unset [] [] = refl
count_unset [] (x ∷ xs) = count_unset [] xs
count_unset (true ∷ ds) xs = ap suc (count_unset ds xs)
count_unset (false ∷ ds) xs = count_unset ds xs

pub none_past : {A : Type 0} (xs : List A) (k : ℕ) → slice_get xs k ≡ None → length xs ≤ k
none_past [] k e = omega arith
none_past (x ∷ xs) zero e = absurd cc
none_past (x ∷ xs) (suc k) e = let i = none_past xs k e in omega (arith, i)
