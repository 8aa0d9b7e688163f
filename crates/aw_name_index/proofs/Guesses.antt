-- A place that is looked at first is the place of the name that stands there, since no name stands twice.
use Rattle.std.proofs.Common.{◌≡◌, ℕ, zero, suc, Bool, true, false, cond, List, [], ◌∷◌, map, length, get_or, ◌<◌, Some, option_map, refl, sym, ap, ◌∙◌, subst, arith}
use Rattle.std.proofs.lemmas.Map.Keys.{IsDistinct-head, IsDistinct-tail}
use Rattle.std.specs.List.{AllByRecursion, IsDistinct}
use Rattle.aw_name_index.specs.Places.{is_same, place_of}
use Rattle.aw_name_index.proofs.Same.{same_self, same_is, other_is_not}

-- what holds of each of a list holds of the one at a place
holds_at : {K : Type 0} (P : K → Type 0) (ks : List K) (i : ℕ) (k : K) → AllByRecursion P ks → i < length ks → get_or ks i k ≡ k → P k
holds_at P [] i k all within at = absurd (omega (arith, within))
holds_at P (y ∷ ys) zero k all within at = subst P at all.0
holds_at P (y ∷ ys) (suc i) k all within at = holds_at P ys i k all.1 (omega (arith, within)) at

-- a name that is not another's is not the one that is sought, where the other is
not_sought : (x y z : List ℕ) → is_same y z ≡ false → z ≡ x → is_same x y ≡ false
not_sought x y z other sought = answer (is_same x y) refl
  where
    answer : (b : Bool) → is_same x y ≡ b → b ≡ false
    answer true h = absurd (other_is_not y z other (sought ∙ same_is x y h))
    answer false h = refl

-- the name at a place of a list whose names differ has that place
placed : {K : Type 0} (f : K → List ℕ) (x : List ℕ) (ks : List K) (i : ℕ) (k : K) → IsDistinct (λ a b. is_same (f a) (f b)) ks → i < length ks →
    get_or ks i k ≡ k → f k ≡ x → Some i ≡ place_of x (map f ks)
placed f x [] i k distinct within at same = absurd (omega (arith, within))
placed f x (y ∷ ys) zero k distinct within at same =
    let found : is_same x (f y) ≡ true = ap (is_same x) (ap f at ∙ same) ∙ same_self x in
    sym (ap (λ b. cond b (Some 0) (option_map (λ j. suc j) (place_of x (map f ys)))) found)
placed f x (y ∷ ys) (suc i) k distinct within at same =
    let less : i < length ys = omega (arith, within) in
    let other = holds_at (λ z. is_same (f y) (f z) ≡ false) ys i k (IsDistinct-head _ y ys distinct) less at in
    let passed : is_same x (f y) ≡ false = not_sought x (f y) (f k) other same in
    ap (option_map (λ j. suc j)) (placed f x ys i k (IsDistinct-tail _ y ys distinct) less at same)
    ∙ sym (ap (λ b. cond b (Some 0) (option_map (λ j. suc j) (place_of x (map f ys)))) passed)

-- and so where the list was borrowed
pub place_at : {K : Type 0} (f : K → List ℕ) (x : List ℕ) (ks lent : List K) (i : ℕ) (k : K) → lent ≡ ks → IsDistinct (λ a b. is_same (f a) (f b))
    ks → i < length lent → get_or lent i k ≡ k → f k ≡ x → Some i ≡ place_of x (map f ks)
place_at f x ks lent i k e distinct within at same =
    placed f x ks i k distinct (subst (λ zs. i < length zs) e within) (sym (ap (λ zs. get_or zs i k) e) ∙ at) same
