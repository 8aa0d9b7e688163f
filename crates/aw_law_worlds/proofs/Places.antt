-- What stands at a place of a list that is written, and of a longer one.
use Rattle.std.proofs.Common.{◌≡◌, ℕ, zero, suc, ◌<◌, Bool, true, List, [], ◌∷◌, length, Some, ap, sym, refl, inl, inr, arith}
use Rattle.std.specs.Prelude.{slice_get, slice_set, ◌⊎◌}
use Rattle.std.proofs.lemmas.Bool.{cases_lt}
use Rattle.aw_list.specs.Members.{Member}
use Rattle.aw_list.proofs.Members.{never}
use Rattle.aw_term.specs.Trees.{Never}
use Rattle.aw_term.specs.Rules.{get}

pub get-set : {A : Type 0} (d : A) (xs : List A) (i : ℕ) (v : A) → i < length xs → get d (slice_set xs i v) i ≡ v
get-set d [] i v h = absurd (omega arith)
get-set d (x ∷ xs) zero v h = refl
get-set d (x ∷ xs) (suc i) v h = get-set d xs i v (omega arith)

pub get-set_other : {A : Type 0} (d : A) (xs : List A) (i j : ℕ) (v : A) → (i ≡ j → Never) → get d (slice_set xs i v) j ≡ get d xs j
get-set_other d [] i j v h = refl
get-set_other d (x ∷ xs) zero zero v h = never (h refl)
get-set_other d (x ∷ xs) zero (suc j) v h = refl
get-set_other d (x ∷ xs) (suc i) zero v h = refl
get-set_other d (x ∷ xs) (suc i) (suc j) v h = get-set_other d xs i j v (λ e. h (ap suc e))

pub set-here : (xs : List Bool) (i : ℕ) → i < length xs → slice_get (slice_set xs i true) i ≡ Some true
set-here [] i h = absurd (omega arith)
set-here (x ∷ xs) zero h = refl
set-here (x ∷ xs) (suc i) h = set-here xs i (omega arith)

pub set-kept : (xs : List Bool) (i k : ℕ) → slice_get xs k ≡ Some true → slice_get (slice_set xs i true) k ≡ Some true
set-kept [] i k e = e
set-kept (x ∷ xs) zero zero e = refl
set-kept (x ∷ xs) zero (suc k) e = e
set-kept (x ∷ xs) (suc i) zero e = e
set-kept (x ∷ xs) (suc i) (suc k) e = set-kept xs i k e

pub set-from : (xs : List Bool) (i k : ℕ) → slice_get (slice_set xs i true) k ≡ Some true → (slice_get xs k ≡ Some true) ⊎ (k ≡ i)
set-from [] i k e = inl e
set-from (x ∷ xs) zero zero e = inr refl
set-from (x ∷ xs) zero (suc k) e = inl e
set-from (x ∷ xs) (suc i) zero e = inl e
set-from (x ∷ xs) (suc i) (suc k) e = elim (set-from xs i k e) [ inl a ↦ inl a | inr a ↦ inr (ap suc a) ]

pub same_or_not : (a b : ℕ) → (a ≡ b) ⊎ (a ≡ b → Never)
same_or_not a b = elim (cases_lt a b) [ inl x ↦ inr (λ e. absurd (omega arith)) | inr x ↦ elim (cases_lt b a) [ inl y ↦ inr (λ e. absurd (omega arith)) | inr y ↦ inl (omega arith) ] ]

pub member-get : {A : Type 0} (xs : List A) (x : A) → Member x xs → (k : ℕ) × (slice_get xs k ≡ Some x)
member-get [] x m = never m
member-get (y ∷ xs) x (inl p) = (0, ap Some (sym p))
member-get (y ∷ xs) x (inr m) = let (k, e) = member-get xs x m in (suc k, e)
