-- Places of lists that go on, or whose elements are seen.
use Rattle.std.specs.Prelude.{slice_get}
use Rattle.std.proofs.Common.{◌≡◌, ℕ, zero, suc, ◌<◌, List, [], ◌∷◌, ◌++◌, map, length, Some, refl, ap, arith}

-- what stands at a place of the front stands there in the whole, and nothing else does
pub from-front : {A : Type 0} (xs ys : List A) (k : ℕ) → k < length xs → slice_get (xs ++ ys) k ≡ slice_get xs k
from-front [] ys k l = absurd (omega arith)
from-front (x ∷ xs) ys zero l = refl
from-front (x ∷ xs) ys (suc k) l = from-front xs ys k (omega arith)

-- an element that is seen at a place is that of an element there
pub seen-from : {A B : Type 0} (f : A → B) (xs : List A) (k : ℕ) (y : B) → slice_get (map f xs) k ≡ Some y → (x : A) × (slice_get xs k ≡ Some x) × (f x ≡ y)
seen-from f [] k y e = absurd cc
seen-from f (x ∷ xs) zero y e = let p : f x ≡ y = cc in (x, refl, p)
seen-from f (x ∷ xs) (suc k) y e = seen-from f xs k y e

pub seen-at : {A B : Type 0} (f : A → B) (xs : List A) (k : ℕ) (x : A) → slice_get xs k ≡ Some x → slice_get (map f xs) k ≡ Some (f x)
seen-at f [] k x e = absurd cc
seen-at f (y ∷ xs) zero x e = let p : y ≡ x = cc in ap (λ z. Some (f z)) p
seen-at f (y ∷ xs) (suc k) x e = seen-at f xs k x e
