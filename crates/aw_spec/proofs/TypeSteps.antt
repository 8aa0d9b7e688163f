-- Lists that go together, and what types by name are.
use Rattle.std.proofs.Common.{◌≡◌, ◌≢◌, ℕ, zero, suc, ◌+◌, ◌<◌, refl, ap, ◌∙◌, subst, Bool, true, false, ◌||◌, List, [], ◌∷◌, ◌++◌, set, map, length}
use Rattle.std.proofs.Common.{Option, Some, None, is_some, option_map, cond, slice_get, arith}
use Rattle.std.proofs.lemmas.Bool.{or_parts}
use Rattle.std.specs.List.{list_any}
use Rattle.aw_name_index.specs.Places.{is_same, stands, place_of}
use Rattle.aw_name_index.proofs.Same.{other_is_not}
use Rattle.aw_name_index.proofs.Lookups.{place_within}
use Rattle.aw_term.specs.WellFormed.{Each, Later}
use Rattle.aw_term.proofs.Eaches.{each_push}
use Rattle.aw_term_reader.proofs.Steps.{bound}
use Rattle.aw_spec.specs.TypeLines.{types_named}
use Rattle.aw_spec.specs.TypesFit.{Alongside}
use Rattle.aw_spec.specs.TypePlaces.{place_from}

pub alongside_push : {A B : Type 0} (R : A → B → Type 0) (xs : List A) (ys : List B) (x : A) (y : B) → Alongside R xs ys → R x y → Alongside R (xs ++ x ∷ []) (ys ++ y ∷ [])
alongside_push R [] [] x y all r = (r, tt)
alongside_push R [] (b ∷ ys) x y all r = absurd all
alongside_push R (a ∷ xs) [] x y all r = absurd all
alongside_push R (a ∷ xs) (b ∷ ys) x y all r = (all.0, alongside_push R xs ys x y all.1 r)

pub alongside_map : {A B : Type 0} (R S : A → B → Type 0) (xs : List A) (ys : List B) → ((x : A) (y : B) → R x y → S x y) → Alongside R xs ys → Alongside S xs ys
alongside_map R S [] [] f all = tt
alongside_map R S [] (b ∷ ys) f all = absurd all
alongside_map R S (a ∷ xs) [] f all = absurd all
alongside_map R S (a ∷ xs) (b ∷ ys) f all = (f a b all.0, alongside_map R S xs ys f all.1)

pub alongside_set : {A B : Type 0} (R : A → B → Type 0) (xs : List A) (ys : List B) (i : ℕ) (x : A) (y : B) → Alongside R xs ys → slice_get xs i ≡ Some x → R x y → Alongside R xs (set ys i y)
alongside_set R [] [] i x y all e r = cc
alongside_set R [] (b ∷ ys) i x y all e r = absurd all
alongside_set R (a ∷ xs) [] i x y all e r = absurd all
alongside_set R (a ∷ xs) (b ∷ ys) zero x y all e r = let same : x ≡ a = cc in (subst (λ v. R v y) same r, all.1)
alongside_set R (a ∷ xs) (b ∷ ys) (suc i) x y all e r = (all.0, alongside_set R xs ys i x y all.1 e r)

pub alongside_at : {A B : Type 0} (R : A → B → Type 0) (xs : List A) (ys : List B) (i : ℕ) (x : A) → Alongside R xs ys → slice_get xs i ≡ Some x → (y : B) × (slice_get ys i ≡ Some y) × R x y
alongside_at R [] [] i x all e = cc
alongside_at R [] (b ∷ ys) i x all e = absurd all
alongside_at R (a ∷ xs) [] i x all e = absurd all
alongside_at R (a ∷ xs) (b ∷ ys) zero x all e = let same : a ≡ x = cc in (b, refl, subst (λ v. R v b) same all.0)
alongside_at R (a ∷ xs) (b ∷ ys) (suc i) x all e = alongside_at R xs ys i x all.1 e

pub alongside_length : {A B : Type 0} (R : A → B → Type 0) (xs : List A) (ys : List B) → Alongside R xs ys → length ys ≡ length xs
alongside_length R [] [] all = refl
alongside_length R [] (b ∷ ys) all = absurd all
alongside_length R (a ∷ xs) [] all = absurd all
alongside_length R (a ∷ xs) (b ∷ ys) all = ap (λ n. suc n) (alongside_length R xs ys all.1)

pub alongside_each : {A B : Type 0} (R : A → B → Type 0) (P : B → Type 0) (xs : List A) (ys : List B) → ((x : A) (y : B) → R x y → P y) → Alongside R xs ys → Each P ys
alongside_each R P [] [] f all = tt
alongside_each R P [] (b ∷ ys) f all = absurd all
alongside_each R P (a ∷ xs) [] f all = absurd all
alongside_each R P (a ∷ xs) (b ∷ ys) f all = (f a b all.0, alongside_each R P xs ys f all.1)

-- what stands at a place of a list

-- an item of a mapped list comes from one of the list
pub mapped_at : {A B : Type 0} (f : A → B) (xs : List A) (i : ℕ) (y : B) → slice_get (map f xs) i ≡ Some y → (x : A) × (slice_get xs i ≡ Some x) × (f x ≡ y)
mapped_at f [] i y e = cc
mapped_at f (x ∷ xs) zero y e = let same : f x ≡ y = cc in (x, refl, same)
mapped_at f (x ∷ xs) (suc i) y e = mapped_at f xs i y e

pub some_within : {A : Type 0} (xs : List A) (i : ℕ) (x : A) → slice_get xs i ≡ Some x → i < length xs
some_within [] i x e = cc
some_within (a ∷ xs) zero x e = omega arith
some_within (a ∷ xs) (suc i) x e = omega (arith, some_within xs i x e)

pub any_set : {A : Type 0} (xs : List (Option A)) (i : ℕ) (x : A) → i < length xs → list_any (λ (o : Option A). is_some o) (set xs i (Some x)) ≡ true
any_set [] i x h = absurd (omega (arith, h))
any_set (a ∷ xs) zero x h = refl
any_set (a ∷ xs) (suc i) x h = ap (λ b. is_some a || b) (any_set xs i x (omega (arith, h))) ∙ or_true (is_some a)
  where
    or_true : (b : Bool) → (b || true) ≡ true
    or_true true = refl
    or_true false = refl

pub any_none : {A : Type 0} (xs : List (Option A)) → list_any (λ (o : Option A). is_some o) (xs ++ None ∷ []) ≡ list_any (λ (o : Option A). is_some o) xs
any_none [] = refl
any_none (x ∷ xs) = ap (λ b. is_some x || b) (any_none xs)

pub later_push : {A : Type 0} (R : A → A → Type 0) (xs : List A) (x : A) → Later R xs → Each (λ a. R a x) xs → Later R (xs ++ x ∷ [])
later_push R [] x later each = (tt, tt)
later_push R (y ∷ xs) x later each = (each_push (R y) xs x later.0 each.0, later_push R xs x later.1 each.1)

-- a test that holds of none
pub each_untested : {A : Type 0} (p : A → Bool) (P : A → Type 0) → ((a : A) → p a ≡ false → P a) → (xs : List A) → list_any p xs ≡ false → Each P xs
each_untested p P f [] h = tt
each_untested p P f (x ∷ xs) h =
    let parts = or_parts (p x) (list_any p xs) h in
    (f x parts.0, each_untested p P f xs parts.1)

-- a name that does not stand among others is none of them
pub others_apart : (x : List ℕ) (names : List (List ℕ)) → stands x names ≡ false → Each (λ y. y ≢ x) names
others_apart x [] h = tt
others_apart x (y ∷ names) h =
    let parts = or_parts (is_same x y) (stands x names) h in
    (other_is_not x y parts.0, others_apart x names parts.1)

-- the numbers of types are below how many there are
pub numbers_within : (all ns : List (List ℕ)) (is : List ℕ) → types_named all ns ≡ Some is → Each (λ t. t < length all) is
numbers_within all [] is e = let same : ◌≡◌ {A = List ℕ} [] is = cc in subst (Each (λ t. t < length all)) same tt
numbers_within all (n ∷ ns) is e =
    bound (place_of n all) _ is e (λ i found e1. bound (types_named all ns) _ is e1 (λ more read e2.
    let same : ◌≡◌ {A = List ℕ} (i ∷ more) is = cc in
    subst (Each (λ t. t < length all)) same (place_within n all i found, numbers_within all ns more read)))

counted_later : (i : ℕ) (o : Option ℕ) → option_map (λ k. k + suc i) o ≡ option_map (λ k. k + i) (option_map (λ k. suc k) o)
counted_later i None = refl
counted_later i (Some k) = ap Some (omega arith)

counted_first : (i : ℕ) (t : Bool) (o later : Option ℕ) → later ≡ option_map (λ k. k + suc i) o → cond t (Some i) later ≡ option_map (λ k. k + i) (cond t (Some 0) (option_map (λ k. suc k) o))
counted_first i true o later e = ap Some (omega arith)
counted_first i false o later e = e ∙ counted_later i o

-- the place of a name, counted on from a number
pub counted_on : (i : ℕ) (x : List ℕ) (ys : List (List ℕ)) → place_from i x ys ≡ option_map (λ k. k + i) (place_of x ys)
counted_on i x [] = refl
counted_on i x (y ∷ ys) = counted_first i (is_same x y) (place_of x ys) (place_from (suc i) x ys) (counted_on (suc i) x ys)

-- the number of a declared type, behind those that stand from the start
pub number_of_declared : (x : List ℕ) (ys : List (List ℕ)) → place_from 2 x ys ≡ option_map (λ k. suc k) (option_map (λ k. suc k) (place_of x ys))
number_of_declared x ys = counted_on 2 x ys ∙ two_more (place_of x ys)
  where
    two_more : (o : Option ℕ) → option_map (λ k. k + 2) o ≡ option_map (λ k. suc k) (option_map (λ k. suc k) o)
    two_more None = refl
    two_more (Some k) = ap Some (omega arith)
