-- The first five steps of a trail and how many steps it has, as one number; and the numbers of the steps behind them.
use Rattle.std.specs.Prelude.{ℕ, zero, suc, ◌+◌, ◌*◌, ◌<◌, ◌≤◌, ◌≡◌, ◌/◌, ◌%◌, ◌^◌, List, [], ◌∷◌, length, drop, Option, Some, None}
use Rattle.aw_name.specs.declared.node.Step.{Step}
use Rattle.aw_name.specs.Digest.{step_number}
use Rattle.aw_name.specs.Limits.{most_steps}

-- the number of the step at a place, from 0; 0 past the last
abbrev pub number_at : List Step → ℕ → ℕ
number_at [] i = 0
number_at (s ∷ xs) zero = step_number s
number_at (s ∷ xs) (suc i) = number_at xs i

-- a step as its type holds it
abbrev pub IsSmall : Step → Type 0
IsSmall s = (s.rule < 65536) × (s.child < 256)

-- the step at a place, if there is one, is such
abbrev pub IsSmallAt : List Step → ℕ → Type 0
IsSmallAt [] i = Unit {0}
IsSmallAt (s ∷ xs) zero = IsSmall s
IsSmallAt (s ∷ xs) (suc i) = IsSmallAt xs i

-- the numbers of the first five steps as one number, the first one highest
abbrev pub lead_of : List Step → ℕ
lead_of xs =
    number_at xs 0 * 79228162514264337593543950336 + number_at xs 1 * 4722366482869645213696 + number_at xs 2 * 281474976710656 + number_at xs 3 * 16777216
    + number_at xs 4

-- and how many steps there are, lowest
unfoldable pub front_of : List Step → ℕ
front_of xs = lead_of xs * 256 + length xs

-- the first five steps are as their type holds them
pub record IsSmallLead (xs : List Step) : Type 0 where
  pub first : IsSmallAt xs 0
  pub second : IsSmallAt xs 1
  pub third : IsSmallAt xs 2
  pub fourth : IsSmallAt xs 3
  pub fifth : IsSmallAt xs 4

-- rules and children in turn
abbrev pub flat : List Step → List ℕ
flat [] = []
flat (s ∷ xs) = s.rule ∷ s.child ∷ flat xs

-- those of the steps behind the first five
abbrev pub flat_rest : List Step → List ℕ
flat_rest xs = flat (drop 5 xs)

-- the steps, where memory was taken for them
abbrev pub steps_in : Option (List Step) → List Step
steps_in None = []
steps_in (Some xs) = xs

-- what stands beside the steps of a trail is made of them
pub record IsTrail (xs : List Step) (high low : ℕ) : Type 0 where
  pub short : length xs ≤ most_steps
  pub high_is : high ≡ front_of xs / 2 ^ 64
  pub low_is : low ≡ front_of xs % 2 ^ 64
  pub small : IsSmallLead xs
