-- What stands at a place of a list, and what each item of a list is.
use Rattle.std.proofs.Common.{◌≡◌, ℕ, zero, suc, ◌<◌, refl, ap, ◌⊎◌, inl, inr, List, [], ◌∷◌, ◌++◌, length, take, slice_get, Some, arith}
use Rattle.std.specs.Prelude.{All, Result, Ok, Err, is_ok, if◌then◌else◌}
use Rattle.std.proofs.lemmas.List.Elements.{All-same, All-push}

-- what stands in the front of a list stands in the list
pub in_front : {A : Type 0} (n : ℕ) (xs : List A) (k : ℕ) (x : A) → slice_get (take n xs) k ≡ Some x → (slice_get xs k ≡ Some x) × (k < n)
in_front zero [] k x e = absurd cc
in_front zero (y ∷ xs) k x e = absurd cc
in_front (suc n) [] k x e = absurd cc
in_front (suc n) (y ∷ xs) zero x e = (e, omega arith)
in_front (suc n) (y ∷ xs) (suc k) x e = let deeper = in_front n xs k x e in (deeper.0, omega (arith, deeper.1))

-- what stands in a list with one more item
pub pushed : {A : Type 0} (xs : List A) (y : A) (k : ℕ) (x : A) → slice_get (xs ++ y ∷ []) k ≡ Some x → (slice_get xs k ≡ Some x) ⊎ ((k ≡ length xs) × (x ≡ y))
pushed [] y zero x e = inr (refl, cc)
pushed [] y (suc k) x e = absurd cc
pushed (z ∷ xs) y zero x e = inl e
pushed (z ∷ xs) y (suc k) x e = elim (pushed xs y k x e) as (λ _. (slice_get xs k ≡ Some x) ⊎ ((suc k ≡ suc (length xs)) × (x ≡ y))) [ inl f ↦ inl f | inr f ↦ inr (ap suc f.0, f.1) ]

-- what each item of a list is, it is where one more such item was added, or memory was wanting for it
pub each_pushed : {A T E : Type 0} (P : A → Type 0) (old new : List A) (x : A) (r : Result T E) → All P old → P x → new ≡ (if is_ok r then old ++ x ∷ [] else old) → All P new
each_pushed P old new x (Ok u) h p e = All-same P new (old ++ x ∷ []) e (All-push P old x h p)
each_pushed P old new x (Err f) h p e = All-same P new old e h
