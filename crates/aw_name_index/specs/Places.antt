-- Places of names in a list, and the first fault of a list of tests.
use Rattle.std.specs.Prelude.{ℕ, suc, Bool, true, false, ◌&&◌, ◌||◌, List, [], ◌∷◌, ◌++◌, length, Option, Some, None, nat_eq, if◌then◌else◌, option_map}
use Rattle.std.specs.Cmp.Lexicographic.{pointwise}

-- whether two names have the same bytes
abbrev pub is_same : List ℕ → List ℕ → Bool
is_same x y = pointwise nat_eq x y

-- where a name stands first, counted from 0
abbrev pub place_of : List ℕ → List (List ℕ) → Option ℕ
place_of x [] = None
place_of x (y ∷ ys) = if is_same x y then Some 0 else option_map (λ i. suc i) (place_of x ys)

-- whether a name stands in a list
abbrev pub stands : List ℕ → List (List ℕ) → Bool
stands x [] = false
stands x (y ∷ ys) = is_same x y || stands x ys

-- the place that was found, or d where none was
abbrev pub or_else : ℕ → Option ℕ → ℕ
or_else d None = d
or_else d (Some i) = i

-- the place of a name, or past the last where it does not stand
abbrev pub number_of : List ℕ → List (List ℕ) → ℕ
number_of x names = or_else (length names) (place_of x names)

-- whether a name stands before it, or among those that were seen
abbrev pub stands_again : List (List ℕ) → List (List ℕ) → Bool
stands_again seen [] = false
stands_again seen (x ∷ xs) = stands x seen || stands_again (seen ++ x ∷ []) xs

-- whether a name stands twice
abbrev pub has_double : List (List ℕ) → Bool
has_double names = stands_again [] names

-- whether one of these names stands in a list
abbrev pub any_stands : List (List ℕ) → List (List ℕ) → Bool
any_stands [] names = false
any_stands (x ∷ xs) names = stands x names || any_stands xs names

-- whether each of these names stands in a list
abbrev pub all_stand : List (List ℕ) → List (List ℕ) → Bool
all_stand [] names = true
all_stand (x ∷ xs) names = stands x names && all_stand xs names

-- the first of these faults whose test holds
abbrev pub first_told : {K : Type 0} → List (Bool × K) → Option K
first_told [] = None
first_told (test ∷ tests) = if test.0 then Some test.1 else first_told tests
