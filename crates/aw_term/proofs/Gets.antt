-- What `get` gives of a list, and what stands in `upto`.
use Rattle.std.proofs.Common.{◌≡◌, ℕ, zero, suc, ◌+◌, ◌<◌, List, [], ◌∷◌, Option, Some, None, slice_get, refl, sym, inl, inr, arith}
use Rattle.aw_list.specs.Members.{Member}
use Rattle.aw_list.proofs.Members.{never}
use Rattle.aw_term.specs.Rules.{get, upto}

pub get_some : {A : Type 0} (d : A) (xs : List A) (i : ℕ) (x : A) → slice_get xs i ≡ Some x → get d xs i ≡ x
get_some d [] i x e = cc
get_some d (y ∷ ys) zero x e = cc
get_some d (y ∷ ys) (suc i) x e = get_some d ys i x e

pub get_none : {A : Type 0} (d : A) (xs : List A) (i : ℕ) → slice_get xs i ≡ None → get d xs i ≡ d
get_none d [] i e = refl
get_none d (y ∷ ys) zero e = cc
get_none d (y ∷ ys) (suc i) e = get_none d ys i e

pub get_member : {A : Type 0} (xs : List (Option A)) (i : ℕ) (x : A) → get None xs i ≡ Some x → Member (Some x) xs
get_member [] i x e = absurd cc
get_member (y ∷ ys) zero x e = inl (sym e)
get_member (y ∷ ys) (suc i) x e = inr (get_member ys i x e)

pub member_upto : (x n m : ℕ) → Member x (upto n m) → (i : ℕ) × (i < m) × (x ≡ n + i)
member_upto x n zero m' = never m'
member_upto x n (suc m) (inl e) = let z : x ≡ n + 0 = omega arith in (0, omega arith, z)
member_upto x n (suc m) (inr r) = let (i, lt, e) = member_upto x (suc n) m r in let z : x ≡ n + suc i = omega arith in (suc i, omega arith, z)
