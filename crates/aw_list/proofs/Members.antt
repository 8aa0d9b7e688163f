-- Members of a list and their places.
use Rattle.std.proofs.Common.{◌≡◌, ℕ, zero, suc, ◌+◌, ◌<◌, List, [], ◌∷◌, ◌++◌, map, length, Some, slice_get, refl, sym, ap, ◌∙◌, subst, inl, inr, arith, get_or}
use Rattle.std.specs.Prelude.{◌⊎◌}
use Rattle.std.proofs.lemmas.Option.{get_or_from_slice_get, slice_get_read}
use Rattle.aw_list.specs.Members.{Member, Never}

pub never : {A : Type 0} → Never → A
never x = elim x [ ]

pub member_got : {A : Type 0} (xs : List A) (i : ℕ) (x : A) → slice_get xs i ≡ Some x → Member x xs
member_got [] i x e = absurd cc
member_got (y ∷ ys) zero x e = let same : x ≡ y = cc in inl same
member_got (y ∷ ys) (suc i) x e = inr (member_got ys i x e)

pub member_place : {A : Type 0} (xs : List A) (x : A) → Member x xs → (k : ℕ) × (k < length xs) × (slice_get xs k ≡ Some x)
member_place [] x m = never m
member_place (y ∷ ys) x (inl same) = (0, omega arith, ap Some (sym same))
member_place (y ∷ ys) x (inr m) = let (k, lt, e) = member_place ys x m in (suc k, omega arith, e)

pub below_or_at : (k i : ℕ) → k < i + 1 → (k < i) ⊎ (k ≡ i)
below_or_at zero zero lt = inr refl
below_or_at zero (suc i) lt = inl (omega arith)
below_or_at (suc k) zero lt = absurd (omega arith)
below_or_at (suc k) (suc i) lt = let l : k < i + 1 = omega arith in elim (below_or_at k i l) [ inl a ↦ inl (omega arith) | inr b ↦ inr (ap suc b) ]

-- what holds of each item before a place, and of the one there, holds of each up to it
pub each_more : {A : Type 0} (P : A → Type 0) (xs : List A) (i : ℕ) (d : A) → ((k : ℕ) → k < i → (x : A) → slice_get xs k ≡ Some x → P x) →
    P (get_or xs i d) → (k : ℕ) → k < i + 1 → (x : A) → slice_get xs k ≡ Some x → P x
each_more P xs i d before here k lt x e = elim (below_or_at k i lt) [ inl less ↦ before k less x e | inr same ↦ subst P (get_or_from_slice_get xs i x d (ap (slice_get xs) (sym same) ∙ e)) here ]

pub member_left : {A : Type 0} (x : A) (xs ys : List A) → Member x xs → Member x (xs ++ ys)
member_left x [] ys m = never m
member_left x (z ∷ zs) ys (inl e) = inl e
member_left x (z ∷ zs) ys (inr m) = inr (member_left x zs ys m)

pub member_right : {A : Type 0} (x : A) (xs ys : List A) → Member x ys → Member x (xs ++ ys)
member_right x [] ys m = m
member_right x (z ∷ zs) ys m = inr (member_right x zs ys m)

pub member_split : {A : Type 0} (x : A) (xs ys : List A) → Member x (xs ++ ys) → Member x xs ⊎ Member x ys
member_split x [] ys m = inr m
member_split x (z ∷ zs) ys (inl e) = inl (inl e)
member_split x (z ∷ zs) ys (inr m) = elim (member_split x zs ys m) [ inl a ↦ inl (inr a) | inr b ↦ inr b ]

pub member_map : {A B : Type 0} (f : A → B) (x : A) (xs : List A) → Member x xs → Member (f x) (map f xs)
member_map f x [] m = never m
member_map f x (y ∷ ys) (inl e) = inl (ap f e)
member_map f x (y ∷ ys) (inr m) = inr (member_map f x ys m)

pub member_unmap : {A B : Type 0} (f : A → B) (y : B) (xs : List A) → Member y (map f xs) → (x : A) × Member x xs × (y ≡ f x)
member_unmap f y [] m = never m
member_unmap f y (x ∷ xs) (inl e) = (x, inl refl, e)
member_unmap f y (x ∷ xs) (inr m) = let (z, n, e) = member_unmap f y xs m in (z, inr n, e)

pub got_map : {A B : Type 0} (f : A → B) (xs : List A) (i : ℕ) (x : A) → slice_get xs i ≡ Some x → slice_get (map f xs) i ≡ Some (f x)
got_map f [] i x e = absurd cc
got_map f (y ∷ ys) zero x e = let same : y ≡ x = cc in ap (λ z. Some (f z)) same
got_map f (y ∷ ys) (suc i) x e = got_map f ys i x e

pub got_unmap : {A B : Type 0} (f : A → B) (xs : List A) (i : ℕ) (y : B) → slice_get (map f xs) i ≡ Some y → (x : A) × (slice_get xs i ≡ Some x) × (y ≡ f x)
got_unmap f [] i y e = absurd cc
got_unmap f (x ∷ xs) zero y e = let same : y ≡ f x = cc in (x, refl, same)
got_unmap f (x ∷ xs) (suc i) y e = got_unmap f xs i y e

pub got_here : {A : Type 0} (xs ys : List A) (i : ℕ) (x : A) → xs ≡ ys → i < length xs → x ≡ get_or xs i x → slice_get ys i ≡ Some x
got_here xs ys i x same lt e = subst (λ (zs : List _). slice_get zs i ≡ Some x) same (slice_get_read xs (length xs) i x refl lt e)
