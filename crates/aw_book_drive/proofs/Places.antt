-- Lists that are written at one place.
use Rattle.std.specs.Prelude.{slice_get, slice_set}
use Rattle.std.proofs.Common.{◌≡◌, ℕ, zero, suc, ◌<◌, List, [], ◌∷◌, map, length, Some, None, refl, sym, ap, ◌∙◌, arith}
use Rattle.aw_list.specs.Members.{Never}
use Rattle.aw_list.proofs.Members.{never}

pub put-here : {A : Type 0} (xs : List A) (i : ℕ) (y : A) → i < length xs → slice_get (slice_set xs i y) i ≡ Some y
put-here [] i y l = absurd (omega arith)
put-here (x ∷ xs) zero y l = refl
put-here (x ∷ xs) (suc i) y l = put-here xs i y (omega arith)

pub put-other : {A : Type 0} (xs : List A) (i j : ℕ) (y : A) → (i ≡ j → Never) → slice_get (slice_set xs i y) j ≡ slice_get xs j
put-other [] i j y n = refl
put-other (x ∷ xs) zero zero y n = never (n refl)
put-other (x ∷ xs) zero (suc j) y n = refl
put-other (x ∷ xs) (suc i) zero y n = refl
put-other (x ∷ xs) (suc i) (suc j) y n = put-other xs i j y (λ e. n (ap suc e))

pub put-length : {A : Type 0} (xs : List A) (i : ℕ) (y : A) → length (slice_set xs i y) ≡ length xs
put-length [] i y = refl
put-length (x ∷ xs) zero y = refl
put-length (x ∷ xs) (suc i) y = ap suc (put-length xs i y)

-- behind all elements there is none
pub past-all : {A : Type 0} (xs : List A) → slice_get xs (length xs) ≡ None
past-all [] = refl
past-all (x ∷ xs) = past-all xs

-- a place within a list has an element
pub some-there : {A : Type 0} (xs : List A) (k : ℕ) → k < length xs → (x : A) × (slice_get xs k ≡ Some x)
some-there [] k l = absurd (omega arith)
some-there (x ∷ xs) zero l = (x, refl)
some-there (x ∷ xs) (suc k) l = some-there xs k (omega arith)

-- and none has one at a later place
pub none-past : {A : Type 0} (xs : List A) (k : ℕ) (x : A) → slice_get xs k ≡ Some x → k < length xs
none-past [] k x e = absurd cc
none-past (y ∷ xs) zero x e = omega arith
none-past (y ∷ xs) (suc k) x e = let l = none-past xs k x e in omega (arith, l)

-- what is seen of a list that is written is written there
pub put-seen : {A B : Type 0} (f : A → B) (xs : List A) (i : ℕ) (y : A) → map f (slice_set xs i y) ≡ slice_set (map f xs) i (f y)
put-seen f [] i y = refl
put-seen f (x ∷ xs) zero y = refl
put-seen f (x ∷ xs) (suc i) y = ap (◌∷◌ (f x)) (put-seen f xs i y)

-- and nothing is seen of it where the same was seen there
pub put-same : {A B : Type 0} (f : A → B) (xs : List A) (i : ℕ) (x y : A) → slice_get xs i ≡ Some x → f y ≡ f x → map f (slice_set xs i y) ≡ map f xs
put-same f [] i x y e p = refl
put-same f (z ∷ xs) zero x y e p = let q : z ≡ x = cc in λ i. (p ∙ sym (ap f q)) i ∷ map f xs
put-same f (z ∷ xs) (suc i) x y e p = ap (◌∷◌ (f z)) (put-same f xs i x y e p)

pub seen-at : {A B : Type 0} (f : A → B) (xs : List A) (k : ℕ) (x : A) → slice_get xs k ≡ Some x → slice_get (map f xs) k ≡ Some (f x)
seen-at f [] k x e = absurd cc
seen-at f (y ∷ xs) zero x e = let p : y ≡ x = cc in ap (λ z. Some (f z)) p
seen-at f (y ∷ xs) (suc k) x e = seen-at f xs k x e
