-- Lemmas on truth values, options, lists and numbers that std does not have.
use Rattle.std.proofs.Common.{arith, refl, [], Some, ◌≡◌, List, zero, ◌∷◌, suc, ◌<◌, ℕ, slice_get, length, None, Option, ap, ◌++◌, Bool, true, sym, false, drop, ◌∙◌, ◌+◌, subst, map}
use Rattle.std.specs.Prelude.{slice_set, IsSome, ◌&&◌, ◌||◌, Ok, Result, OnOk, Err, not, if◌then◌else◌}
use Rattle.std.proofs.lemmas.List.{drop_more}
use Rattle.std.proofs.lemmas.Option.{slice_get_within, get_or_from_slice_get}
use Rattle.std.specs.Result.{is_ok}

pub get_within : {A : Type 0} (xs : List A) (i : ℕ) → i < length xs → (x : A) × (slice_get xs i ≡ Some x)
get_within [] i h = absurd (omega (arith, h))
get_within (a ∷ xs) zero h = (a, refl)
get_within (a ∷ xs) (suc i) h = get_within xs i (omega (arith, h))

pub set-here : {A : Type 0} (xs : List A) (n : ℕ) (x : A) → n < length xs → slice_get (slice_set xs n x) n ≡ Some x
set-here [] n x l = absurd (omega (arith, l))
set-here (y ∷ ys) zero x l = refl
set-here (y ∷ ys) (suc n) x l = set-here ys n x (omega (arith, l))

pub some_of : {A : Type 0} (o : Option A) → IsSome o → (x : A) × (o ≡ Some x)
some_of None h = absurd cc
some_of (Some x) h = (x, refl)

pub set-append : {A : Type 0} (xs ys : List A) (i : ℕ) (v : A) → i < length xs → slice_set (xs ++ ys) i v ≡ slice_set xs i v ++ ys
set-append [] ys i v l = absurd (omega arith)
set-append (x ∷ xs) ys zero v l = refl
set-append (x ∷ xs) ys (suc i) v l = ap (◌∷◌ x) (set-append xs ys i v (omega arith))

pub length-slice_set : {A : Type 0} (xs : List A) (j : ℕ) (x : A) → length (slice_set xs j x) ≡ length xs
length-slice_set [] j x = refl
length-slice_set (y ∷ xs) zero x = refl
length-slice_set (y ∷ xs) (suc j) x = ap suc (length-slice_set xs j x)

pub same-test : (a b : Bool) → (a ≡ true → b ≡ true) → (b ≡ true → a ≡ true) → a ≡ b
same-test true b there back = sym (there refl)
same-test false true there back = back refl
same-test false false there back = refl

pub and_true : (a b : Bool) → (a && b) ≡ true → (a ≡ true) × (b ≡ true)
and_true true b e = (refl, e)
and_true false b e = absurd cc

-- an item is first among those from its place on
pub at_next : {A : Type 0} (xs : List A) (i : ℕ) (x : A) → slice_get xs i ≡ Some x → drop i xs ≡ x ∷ drop (i + 1) xs
at_next xs i x e = drop_more xs i x (slice_get_within xs i x e) ∙ ap (λ y. y ∷ drop (i + 1) xs) (get_or_from_slice_get xs i x x e)

pub or_left : (a b : Bool) → a ≡ true → (a || b) ≡ true
or_left true b e = refl
or_left false b e = absurd cc

pub or_right : (a b : Bool) → b ≡ true → (a || b) ≡ true
or_right true b e = refl
or_right false b e = e

pub extended : {T E : Type 0} (r : Result T E) (now more same : List ℕ) (Q : List ℕ → Type 0) → now ≡ (if is_ok r then more else same) → Q more → OnOk r (Q now)
extended (Ok x) now more same Q is q = subst Q (sym is) q
extended (Err e) now more same Q is q = tt

pub is_false : (b : Bool) → not b ≡ true → b ≡ false
is_false true e = absurd cc
is_false false e = refl

pub map-set : {A B : Type 0} (f : A → B) (xs : List A) (i : ℕ) (v : A) → map f (slice_set xs i v) ≡ slice_set (map f xs) i (f v)
map-set f [] i v = refl
map-set f (x ∷ xs) zero v = refl
map-set f (x ∷ xs) (suc i) v = ap (◌∷◌ (f x)) (map-set f xs i v)

pub some-inj : {A : Type 0} {a b : A} → Some a ≡ Some b → a ≡ b
some-inj e = cc

pub get-left : {A : Type 0} (xs ys : List A) (k : ℕ) (x : A) → slice_get xs k ≡ Some x → slice_get (xs ++ ys) k ≡ Some x
get-left [] ys k x e = absurd cc
get-left (z ∷ xs) ys zero x e = e
get-left (z ∷ xs) ys (suc k) x e = get-left xs ys k x e

pub from_here : {A : Type 0} (xs : List A) (n : ℕ) (x : A) → slice_get xs n ≡ Some x → drop n xs ≡ x ∷ drop (suc n) xs
from_here [] n x e = absurd cc
from_here (y ∷ ys) zero x e = let same : y ≡ x = cc in ap (λ z. z ∷ ys) same
from_here (y ∷ ys) (suc n) x e = from_here ys n x e

pub on_ok : {A E : Type 0} {P Q : Type 0} (r : Result A E) → OnOk r P → (P → Q) → OnOk r Q
on_ok (Ok a) p f = f p
on_ok (Err e) p f = tt
