-- Lists that are written at a place, mapped, filtered, or put one behind the other.
use Rattle.std.specs.Prelude.{slice_get, slice_set, filter}
use Rattle.std.proofs.Common.{◌≡◌, ℕ, zero, suc, ◌≤◌, Bool, true, false, cond, List, [], ◌∷◌, ◌++◌, map, length, Some, refl, ap, ◌∙◌, inl, inr, arith}
use Rattle.aw_list.specs.Members.{Member}
use Rattle.aw_list.proofs.Members.{never}
use Rattle.aw_term.specs.Rules.{get}
use Rattle.aw_term.specs.Trees.{Never}

pub set-set : {A : Type 0} (xs : List A) (i : ℕ) (u v : A) → slice_set (slice_set xs i u) i v ≡ slice_set xs i v
set-set [] i u v = refl
set-set (x ∷ xs) zero u v = refl
set-set (x ∷ xs) (suc i) u v = ap (◌∷◌ x) (set-set xs i u v)

pub set-swap : {A : Type 0} (xs : List A) (i j : ℕ) (u v : A) → (i ≡ j → Never) → slice_set (slice_set xs i u) j v ≡ slice_set (slice_set xs j v) i u
set-swap [] i j u v n = refl
set-swap (x ∷ xs) zero zero u v n = never (n refl)
set-swap (x ∷ xs) zero (suc j) u v n = refl
set-swap (x ∷ xs) (suc i) zero u v n = refl
set-swap (x ∷ xs) (suc i) (suc j) u v n = ap (◌∷◌ x) (set-swap xs i j u v (λ e. n (ap suc e)))

pub set-get : {A : Type 0} (xs : List A) (i : ℕ) (v : A) → slice_get xs i ≡ Some v → slice_set xs i v ≡ xs
set-get [] i v e = refl
set-get (x ∷ xs) zero v e = let p : v ≡ x = cc in ap (λ v. v ∷ xs) p
set-get (x ∷ xs) (suc i) v e = ap (◌∷◌ x) (set-get xs i v e)

pub map-get : {A B : Type 0} (f : A → B) (d : A) (xs : List A) (i : ℕ) → get (f d) (map f xs) i ≡ f (get d xs i)
map-get f d [] i = refl
map-get f d (x ∷ xs) zero = refl
map-get f d (x ∷ xs) (suc i) = map-get f d xs i

pub map-map : {A B C : Type 0} (f : B → C) (h : A → B) (xs : List A) → map f (map h xs) ≡ map (λ x. f (h x)) xs
map-map f h [] = refl
map-map f h (x ∷ xs) = ap (◌∷◌ (f (h x))) (map-map f h xs)

pub map-self : {A : Type 0} (f : A → A) (xs : List A) → ((x : A) → f x ≡ x) → map f xs ≡ xs
map-self f [] h = refl
map-self f (x ∷ xs) h = λ i. h x i ∷ map-self f xs h i

pub nil-left : {A : Type 0} (xs : List A) (y : A) → xs ++ y ∷ [] ≡ [] → Never
nil-left [] y e = absurd cc
nil-left (x ∷ xs) y e = absurd cc

pub set-same : {A : Type 0} (d : A) (xs : List A) (i : ℕ) → slice_set xs i (get d xs i) ≡ xs
set-same d [] i = refl
set-same d (x ∷ xs) zero = refl
set-same d (x ∷ xs) (suc i) = ap (◌∷◌ x) (set-same d xs i)

pub get-short : {A : Type 0} (d : A) (xs : List A) (i : ℕ) → length xs ≤ i → get d xs i ≡ d
get-short d [] i l = refl
get-short d (x ∷ xs) zero l = absurd (omega arith)
get-short d (x ∷ xs) (suc i) l = get-short d xs i (omega arith)

pub set-short : {A : Type 0} (xs : List A) (i : ℕ) (v : A) → length xs ≤ i → slice_set xs i v ≡ xs
set-short [] i v l = refl
set-short (x ∷ xs) zero v l = absurd (omega arith)
set-short (x ∷ xs) (suc i) v l = ap (◌∷◌ x) (set-short xs i v (omega arith))

-- the messages by sender
pub filter-append : {A : Type 0} (p : A → Bool) (xs ys : List A) → filter p (xs ++ ys) ≡ filter p xs ++ filter p ys
filter-append p [] ys = refl
filter-append p (x ∷ xs) ys = go (p x) (filter-append p xs ys)
  where
    go : (b : Bool) → filter p (xs ++ ys) ≡ filter p xs ++ filter p ys → cond b (x ∷ filter p (xs ++ ys)) (filter p (xs ++ ys)) ≡ cond b (x ∷ filter p xs) (filter p xs) ++ filter p ys
    go true e = ap (◌∷◌ x) e
    go false e = e

pub filter-all : {A : Type 0} (p : A → Bool) (xs : List A) → ((x : A) → Member x xs → p x ≡ true) → filter p xs ≡ xs
filter-all p [] f = refl
filter-all p (x ∷ xs) f = ap (λ b. cond b (x ∷ filter p xs) (filter p xs)) (f x (inl refl)) ∙ ap (◌∷◌ x) (filter-all p xs (λ y m. f y (inr m)))

pub filter-none : {A : Type 0} (p : A → Bool) (xs : List A) → ((x : A) → Member x xs → p x ≡ false) → filter p xs ≡ []
filter-none p [] f = refl
filter-none p (x ∷ xs) f = ap (λ b. cond b (x ∷ filter p xs) (filter p xs)) (f x (inl refl)) ∙ filter-none p xs (λ y m. f y (inr m))

pub cons-inj : {A : Type 0} {x y : A} {xs ys : List A} → x ∷ xs ≡ y ∷ ys → (x ≡ y) × (xs ≡ ys)
cons-inj e = (cc, cc)
