-- The places of names among names that differ.
use Rattle.std.proofs.Common.{◌≡◌, ◌≢◌, ℕ, zero, suc, ◌+◌, ◌<◌, ◌≤◌, refl, sym, ap, ◌∙◌, true, false, cond, ◌||◌, ◌&&◌, List, [], ◌∷◌, ◌++◌, length, map, take, drop, Some, is_some, option_map, arith}
use Rattle.std.proofs.lemmas.Bool.{or_parts}
use Rattle.aw_name_index.specs.Places.{is_same, place_of, or_else, number_of, stands, any_stands, all_stand}
use Rattle.aw_name_index.proofs.Same.{same_self}
use Rattle.aw_name_index.proofs.Lookups.{stands_is_placed}
use Rattle.aw_term.specs.Rules.{get, upto}
use Rattle.aw_term.specs.WellFormed.{Each, Differ}
use Rattle.aw_term.proofs.Eaches.{each_right}
use Rattle.aw_grammar.proofs.PlacedNames.{not_same, place_again}

-- of the one that stands between others
pub each_mid : {A : Type 0} (P : A → Type 0) (pre : List A) (x : A) (post : List A) → Each P (pre ++ x ∷ post) → P x
each_mid P pre x post each = (each_right P pre (x ∷ post) each).0

pub number_again : (names : List (List ℕ)) (i : ℕ) → Differ names → i < length names → number_of (get [] names i) names ≡ i
number_again names i differ less = ap (or_else (length names)) (place_again names i differ less)

pub stands_at : (names : List (List ℕ)) (i : ℕ) → Differ names → i < length names → stands (get [] names i) names ≡ true
stands_at names i differ less = sym (stands_is_placed (get [] names i) names) ∙ ap is_some (place_again names i differ less)

-- a name does not stand among those before it
pub new_name : (pre : List (List ℕ)) (x : List ℕ) (post : List (List ℕ)) → Differ (pre ++ x ∷ post) → stands x pre ≡ false
new_name [] x post differ = refl
new_name (y ∷ pre) x post differ =
    ap (λ b. b || stands x pre) (not_same x y (each_mid (λ b. y ≢ b) pre x post differ.0)) ∙ new_name pre x post differ.1

-- a name that does not stand before has the place behind them
pub place_mid : (pre : List (List ℕ)) (x : List ℕ) (post : List (List ℕ)) → stands x pre ≡ false → place_of x (pre ++ x ∷ post) ≡ Some (length pre)
place_mid [] x post h = ap (λ b. cond b (Some 0) (option_map (λ k. suc k) (place_of x post))) (same_self x)
place_mid (y ∷ pre) x post h =
    let parts = or_parts (is_same x y) (stands x pre) h in
    ap (λ b. cond b (Some 0) (option_map (λ k. suc k) (place_of x (pre ++ x ∷ post)))) parts.0
    ∙ ap (λ o. option_map (λ k. suc k) o) (place_mid pre x post parts.1)

pub none_stands : (xs names : List (List ℕ)) → Each (λ v. stands v names ≡ false) xs → any_stands xs names ≡ false
none_stands [] names each = refl
none_stands (x ∷ xs) names each = ap (λ b. b || any_stands xs names) each.0 ∙ none_stands xs names each.1

pub each_take : {A : Type 0} (P : A → Type 0) (n : ℕ) (xs : List A) → Each P xs → Each P (take n xs)
each_take P zero xs each = tt
each_take P (suc n) [] each = tt
each_take P (suc n) (x ∷ xs) each = (each.0, each_take P n xs each.1)

pub each_drop : {A : Type 0} (P : A → Type 0) (n : ℕ) (xs : List A) → Each P xs → Each P (drop n xs)
each_drop P zero xs each = each
each_drop P (suc n) [] each = tt
each_drop P (suc n) (x ∷ xs) each = each_drop P n xs each.1

-- names at numbers below the length all stand
pub all_stand_at : (names : List (List ℕ)) (is : List ℕ) → Differ names → Each (λ v. v < length names) is → all_stand (map (get [] names) is) names ≡ true
all_stand_at names [] differ each = refl
all_stand_at names (i ∷ is) differ each =
    ap (λ b. b && all_stand (map (get [] names) is) names) (stands_at names i differ each.0) ∙ all_stand_at names is differ each.1

drop_get : {A : Type 0} (d : A) (xs : List A) (i : ℕ) → i < length xs → drop i xs ≡ get d xs i ∷ drop (suc i) xs
drop_get d [] i less = absurd (omega (arith, less))
drop_get d (x ∷ xs) zero less = refl
drop_get d (x ∷ xs) (suc i) less = drop_get d xs i (omega (arith, less))

-- the items at numbers that follow each other
pub gets_in_turn : {A : Type 0} (d : A) (xs : List A) (i k : ℕ) → i + k ≤ length xs → map (get d xs) (upto i k) ≡ take k (drop i xs)
gets_in_turn d xs i zero less = refl
gets_in_turn d xs i (suc k) less =
    ap (λ ys. get d xs i ∷ ys) (gets_in_turn d xs (suc i) k (omega (arith, less))) ∙ ap (take (suc k)) (sym (drop_get d xs i (omega (arith, less))))

pub each_upto : (i k n : ℕ) → i + k ≤ n → Each (λ v. v < n) (upto i k)
each_upto i zero n h = tt
each_upto i (suc k) n h = (omega arith, each_upto (suc i) k n (omega arith))
