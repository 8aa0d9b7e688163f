-- Lists by their places.
use Rattle.std.proofs.Common.{◌≡◌, ◌≢◌, ℕ, zero, suc, ◌<◌, ◌⊎◌, inl, inr, List, [], ◌∷◌, ◌++◌, length, Some, slice_get, refl, ap, arith}
use Rattle.std.specs.Prelude.{slice_set, insert}
use Rattle.aw_list.proofs.Everyday.{set-here, length-slice_set as set-length}

-- one place has this now, and each other has what it had
pub record IsSetAt {A : Type 0} (old new : List A) (n : ℕ) (x : A) : Type 0 where
  pub length : length new ≡ length old
  pub here : slice_get new n ≡ Some x
  pub others : (m : ℕ) → m ≢ n → slice_get new m ≡ slice_get old m

set-others : {A : Type 0} (xs : List A) (n : ℕ) (x : A) (m : ℕ) → m ≢ n → slice_get (slice_set xs n x) m ≡ slice_get xs m
set-others [] n x m d = refl
set-others (y ∷ ys) zero x zero d = absurd (d refl)
set-others (y ∷ ys) zero x (suc m) d = refl
set-others (y ∷ ys) (suc n) x zero d = refl
set-others (y ∷ ys) (suc n) x (suc m) d = set-others ys n x m (λ e. d (ap suc e))

pub set_at : {A : Type 0} (xs : List A) (n : ℕ) (x : A) → n < length xs → IsSetAt xs (slice_set xs n x) n x
set_at xs n x l = record { length = set-length xs n x; here = set-here xs n x l; others = set-others xs n x }

-- what stands in a longer list
pub get-push : {A : Type 0} (xs : List A) (x : A) (n : ℕ) → n < length xs → slice_get (xs ++ x ∷ []) n ≡ slice_get xs n
get-push [] x n l = absurd (omega (arith, l))
get-push (y ∷ ys) x zero l = refl
get-push (y ∷ ys) x (suc n) l = get-push ys x n (omega (arith, l))

-- in two lists into which something was put at one place, what stands at a place was put in, or stood at one place in both before
abbrev pub StoodBefore : {A B : Type 0} → List A → List B → A → B → A → B → Type 0
StoodBefore xs ys x y a b = ((a ≡ x) × (b ≡ y)) ⊎ ((j : ℕ) × (slice_get xs j ≡ Some a) × (slice_get ys j ≡ Some b))

later : {A B : Type 0} (u : A) (v : B) (xs : List A) (ys : List B) (x : A) (y : B) (a : A) (b : B) → StoodBefore xs ys x y a b → StoodBefore (u ∷ xs) (v ∷ ys) x y a b
later u v xs ys x y a b (inl e) = inl e
later u v xs ys x y a b (inr (j, e, f)) = inr (suc j, e, f)

pub inserted_both : {A B : Type 0} (xs : List A) (ys : List B) (at : ℕ) (x : A) (y : B) (i : ℕ) (a : A) (b : B) → length xs ≡ length ys →
    slice_get (insert xs at x) i ≡ Some a → slice_get (insert ys at y) i ≡ Some b → StoodBefore xs ys x y a b
inserted_both [] [] zero x y zero a b l e f = inl (cc, cc)
inserted_both [] [] (suc at) x y zero a b l e f = inl (cc, cc)
inserted_both [] [] zero x y (suc i) a b l e f = absurd cc
inserted_both [] [] (suc at) x y (suc i) a b l e f = absurd cc
inserted_both [] (v ∷ ys) at x y i a b l e f = absurd (omega (arith, l))
inserted_both (u ∷ xs) [] at x y i a b l e f = absurd (omega (arith, l))
inserted_both (u ∷ xs) (v ∷ ys) zero x y zero a b l e f = inl (cc, cc)
inserted_both (u ∷ xs) (v ∷ ys) zero x y (suc i) a b l e f = inr (i, e, f)
inserted_both (u ∷ xs) (v ∷ ys) (suc at) x y zero a b l e f = inr (0, e, f)
inserted_both (u ∷ xs) (v ∷ ys) (suc at) x y (suc i) a b l e f = later u v xs ys x y a b (inserted_both xs ys at x y i a b (omega (arith, l)) e f)
