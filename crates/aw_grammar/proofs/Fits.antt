-- What holds of each item holds of the one at a place.
use Rattle.std.proofs.Common.{◌≡◌, ℕ, zero, suc, List, [], ◌∷◌, map, Option, Some, None, slice_get, IfSome, Bor, subst, sym}
use Rattle.std.specs.Option.{option_copied}
use Rattle.aw_term.specs.WellFormed.{Each}

pub each_at : {A : Type 0} (P : A → Type 0) (xs : List A) (i : ℕ) (x : A) → Each P xs → slice_get xs i ≡ Some x → P x
each_at P [] i x each e = cc
each_at P (y ∷ ys) zero x each e =
    let same : y ≡ x = cc in subst P same each.0
each_at P (y ∷ ys) (suc i) x each e = each_at P ys i x each.1 e

pub each_map_at : {A B : Type 0} (f : A → B) (P : B → Type 0) (xs : List A) (i : ℕ) (x : A) → Each P (map f xs) → slice_get xs i ≡ Some x → P (f x)
each_map_at f P [] i x each e = cc
each_map_at f P (y ∷ ys) zero x each e =
    let same : y ≡ x = cc in subst (λ z. P (f z)) same each.0
each_map_at f P (y ∷ ys) (suc i) x each e = each_map_at f P ys i x each.1 e

-- of the item behind a look-up's reference
pub if_found : {A : Type 0} (Q : A → Type 0) (found : Option (Bor A)) (xs : List A) (i : ℕ) → option_copied found ≡ slice_get xs i →
    ((x : A) → slice_get xs i ≡ Some x → Q x) → IfSome found (λ r. Q r.now)
if_found Q None xs i e here = tt
if_found Q (Some r) xs i e here = here r.now (sym e)
