-- What a step that goes on has read, and what a choice of two gives.
use Rattle.std.proofs.Common.{◌≡◌, Bool, true, false, cond, Option, None, Some, refl}
use Rattle.aw_term_reader.specs.Forms.{◌>>=◌}

pub bound : {A B P : Type 0} (o : Option A) (f : A → Option B) (y : B) → (o >>= f) ≡ Some y → ((x : A) → o ≡ Some x → f x ≡ Some y → P) → P
bound None f y e k = cc
bound (Some x) f y e k = k x refl e

pub chosen : {A P : Type 0} (t : Bool) (x y : Option A) (z : A) → (x ≡ Some z → P) → (y ≡ Some z → P) → cond t x y ≡ Some z → P
chosen true x y z f g e = f e
chosen false x y z f g e = g e
