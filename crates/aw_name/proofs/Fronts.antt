-- The steps at the places of the front.
use Rattle.std.proofs.Common.{◌≡◌, ℕ, zero, suc, ◌<◌, ◌≤◌, ◌+◌, ◌*◌, ◌/◌, ◌%◌, ◌^◌, List, [], ◌∷◌, refl, arith, length, get_or}
use Rattle.aw_name.specs.declared.node.Step.{Step}
use Rattle.aw_name.specs.Digest.{step_number}
use Rattle.aw_name.specs.Front.{number_at, lead_of, front_of, IsSmall, IsSmallAt, IsTrail}

pub at_place : (xs : List Step) (i : ℕ) (d : Step) → i < length xs → step_number (get_or xs i d) ≡ number_at xs i
at_place [] i d h = absurd (omega (arith, h))
at_place (x ∷ xs) zero d h = refl
at_place (x ∷ xs) (suc i) d h = at_place xs i d (omega (arith, h))

pub small_at : (xs : List Step) (i : ℕ) (d : Step) → i < length xs → IsSmall (get_or xs i d) → IsSmallAt xs i
small_at [] i d h s = absurd (omega (arith, h))
small_at (x ∷ xs) zero d h s = s
small_at (x ∷ xs) (suc i) d h s = small_at xs i d (omega (arith, h)) s

pub past : (xs : List Step) (i : ℕ) → length xs ≤ i → 0 ≡ number_at xs i
past [] i h = refl
past (x ∷ xs) zero h = absurd (omega (arith, h))
past (x ∷ xs) (suc i) h = past xs i (omega (arith, h))

pub none_at : (xs : List Step) (i : ℕ) → length xs ≤ i → IsSmallAt xs i
none_at [] i h = tt
none_at (x ∷ xs) zero h = absurd (omega (arith, h))
none_at (x ∷ xs) (suc i) h = none_at xs i (omega (arith, h))

-- no steps, and nothing beside them
pub empty : IsTrail [] 0 0
unfolding front_of
empty = record { short = omega arith; high_is = refl; low_is = refl; small = record { first = tt; second = tt; third = tt; fourth = tt; fifth = tt } }

-- the lowest word of a front holds how many steps there are
pub length_in : (xs : List Step) (low : ℕ) → length xs ≤ 250 → low ≡ front_of xs % 2 ^ 64 → low % 256 ≡ length xs
unfolding front_of
length_in xs low h e =
    let f : low ≡ (lead_of xs * 256 + length xs) % 18446744073709551616 = e in
    omega (arith, f, h)

-- and what stands above is the lead
pub lead_in : (xs : List Step) (front : ℕ) → length xs ≤ 250 → front ≡ front_of xs → front / 256 ≡ lead_of xs
unfolding front_of
lead_in xs front h e =
    let f : front ≡ lead_of xs * 256 + length xs = e in
    omega (arith, f, h)
