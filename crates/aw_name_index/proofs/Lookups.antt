-- What look-ups by position and by any say of places.
use Rattle.std.proofs.Common.{◌≡◌, ℕ, ◌+◌, suc, Bool, true, false, cond, List, [], ◌∷◌, ◌++◌, map, Option, Some, None, is_some, option_map, ◌||◌, ◌<◌}
use Rattle.std.proofs.Common.{length, subst, sym, refl, ap, ◌∙◌, arith, position}
use Rattle.std.proofs.lemmas.List.{map-append}
use Rattle.std.specs.List.{position_from, list_any}
use Rattle.std.proofs.lemmas.Iterator.Adapters.{position_from-zero}
use Rattle.aw_name_index.specs.Places.{is_same, place_of, stands, or_else, number_of}

from_case : (b : Bool) (i : ℕ) (later p : Option ℕ) → p ≡ option_map (λ k. i + 1 + k) later → cond b (Some i) p ≡ option_map (λ k. i + k) (cond b (Some 0) (option_map (λ k. suc k) later))
from_case true i later p h = ap Some (omega arith)
from_case false i None p h = h
from_case false i (Some k) p h = h ∙ ap Some (omega arith)

place_from : {K : Type 0} (f : K → List ℕ) (x : List ℕ) (ks : List K) (i : ℕ) → position_from (λ k. is_same x (f k)) i ks ≡ option_map (λ k. i + k) (place_of x (map f ks))
place_from f x [] i = refl
place_from f x (k ∷ ks) i = from_case (is_same x (f k)) i (place_of x (map f ks)) _ (place_from f x ks (i + 1))

from_zero : (o : Option ℕ) → option_map (λ k. 0 + k) o ≡ o
from_zero None = refl
from_zero (Some k) = ap Some (omega arith)

pub place_by_position : {K : Type 0} (f : K → List ℕ) (x : List ℕ) (ks : List K) → position (λ k. is_same x (f k)) ks ≡ place_of x (map f ks)
place_by_position f x ks = position_from-zero (λ k. is_same x (f k)) ks ∙ place_from f x ks 0 ∙ from_zero _

none_case : (b : Bool) (later : Option ℕ) → cond b (Some 0) (option_map (λ k. suc k) later) ≡ None → (b ≡ false) × (later ≡ None)
none_case true later h = cc
none_case false None h = (refl, refl)
none_case false (Some k) h = cc

pub any_of_none : {K : Type 0} (f : K → List ℕ) (x : List ℕ) (ks : List K) → place_of x (map f ks) ≡ None → list_any (λ k. is_same x (f k)) ks ≡ false
any_of_none f x [] h = refl
any_of_none f x (k ∷ ks) h =
    let parts = none_case (is_same x (f k)) (place_of x (map f ks)) h in
    rw parts.0 (any_of_none f x ks parts.1)

-- a key that is inserted where its name does not stand goes last
pub name_pushed : {K : Type 0} (f : K → List ℕ) (x : List ℕ) (k : K) (keys new : List K) (names : List (List ℕ)) → f k ≡ x → map f keys ≡ names →
    place_of x names ≡ None → new ≡ cond (list_any (λ y. is_same (f k) (f y)) keys) keys (keys ++ k ∷ []) → map f new ≡ names ++ x ∷ []
name_pushed f x k keys new names same listed none inserted =
    let absent : list_any (λ y. is_same (f k) (f y)) keys ≡ false = any_of_none f (f k) keys (ap (λ ns. place_of (f k) ns) listed ∙ ap (λ z. place_of z names) same ∙ none) in
    ap (λ ks. map f ks) (inserted ∙ ap (λ b. cond b keys (keys ++ k ∷ [])) absent)
    ∙ map-append f keys (k ∷ [])
    ∙ ap (λ z. map f keys ++ z ∷ []) same
    ∙ ap (λ ns. ns ++ x ∷ []) listed

any_stands_in : {K : Type 0} (f : K → List ℕ) (x : List ℕ) (ks : List K) → list_any (λ k. is_same x (f k)) ks ≡ stands x (map f ks)
any_stands_in f x [] = refl
any_stands_in f x (k ∷ ks) = ap (λ b. is_same x (f k) || b) (any_stands_in f x ks)

-- a name stands where a key of that name does
pub stands_by_keys : {K : Type 0} (f : K → List ℕ) (x : List ℕ) (k : K) (keys : List K) (names : List (List ℕ)) → f k ≡ x → map f keys ≡ names →
    list_any (λ y. is_same (f k) (f y)) keys ≡ stands x names
stands_by_keys f x k keys names same listed =
    any_stands_in f (f k) keys ∙ ap (stands (f k)) listed ∙ ap (λ z. stands z names) same

mapped_case : {K : Type 0} (f : K → List ℕ) (k : K) (keys : List K) (b : Bool) → map f (cond b keys (keys ++ k ∷ [])) ≡ cond b (map f keys) (map f keys ++ f k ∷ [])
mapped_case f k keys true = refl
mapped_case f k keys false = map-append f keys (k ∷ [])

-- a key that is inserted goes last where its name does not stand, and else changes nothing
pub name_inserted : {K : Type 0} (f : K → List ℕ) (x : List ℕ) (k : K) (keys new : List K) (names : List (List ℕ)) → f k ≡ x → map f keys ≡ names →
    new ≡ cond (list_any (λ y. is_same (f k) (f y)) keys) keys (keys ++ k ∷ []) → map f new ≡ cond (stands x names) names (names ++ x ∷ [])
name_inserted f x k keys new names same listed inserted =
    ap (λ ks. map f ks) inserted
    ∙ mapped_case f k keys (list_any (λ y. is_same (f k) (f y)) keys)
    ∙ ap (λ b. cond b (map f keys) (map f keys ++ f k ∷ [])) (stands_by_keys f x k keys names same listed)
    ∙ ap (λ ns. cond (stands x names) ns (ns ++ f k ∷ [])) listed
    ∙ ap (λ z. cond (stands x names) names (names ++ z ∷ [])) same

stands_case : (b : Bool) (more : Bool) (later : Option ℕ) → is_some later ≡ more → is_some (cond b (Some 0) (option_map (λ k. suc k) later)) ≡ (b || more)
stands_case true more later h = refl
stands_case false more None h = h
stands_case false more (Some k) h = h

pub stands_is_placed : (x : List ℕ) (names : List (List ℕ)) → is_some (place_of x names) ≡ stands x names
stands_is_placed x [] = refl
stands_is_placed x (y ∷ names) = stands_case (is_same x y) (stands x names) (place_of x names) (stands_is_placed x names)

none_of : (o : Option ℕ) → is_some o ≡ false → o ≡ None
none_of None h = refl
none_of (Some k) h = cc

pub no_place : (x : List ℕ) (names : List (List ℕ)) → stands x names ≡ false → place_of x names ≡ None
no_place x names h = none_of (place_of x names) (stands_is_placed x names ∙ h)

pub some_of : (o : Option ℕ) → is_some o ≡ true → (i : ℕ) × (o ≡ Some i)
some_of None h = cc
some_of (Some i) h = (i, refl)

pub some_place : (x : List ℕ) (names : List (List ℕ)) → stands x names ≡ true → (i : ℕ) × (place_of x names ≡ Some i)
some_place x names h = some_of (place_of x names) (stands_is_placed x names ∙ h)

-- a place is below the length
pub place_within : (x : List ℕ) (names : List (List ℕ)) (i : ℕ) → place_of x names ≡ Some i → i < length names
place_within x [] i h = cc
place_within x (y ∷ names) i h = within_case (is_same x y) (place_of x names) i h (place_within x names)
  where
    within_case : (b : Bool) (later : Option ℕ) (i : ℕ) → cond b (Some 0) (option_map (λ k. suc k) later) ≡ Some i → ((k : ℕ) → later ≡ Some k → k < length names) → i < suc (length names)
    within_case true later i h deeper = let e : 0 ≡ i = cc in omega arith
    within_case false None i h deeper = cc
    within_case false (Some k) i h deeper =
        let e : suc k ≡ i = cc in
        let less = deeper k refl in omega arith

-- the number of a name that stands is below the length
pub number_within : (x : List ℕ) (names : List (List ℕ)) → stands x names ≡ true → number_of x names < length names
number_within x names h =
    let found = some_place x names h in
    subst (λ o. or_else (length names) o < length names) (sym found.1) (place_within x names found.0 found.1)

pub is_placed : (x : List ℕ) (names : List (List ℕ)) (o : Option ℕ) → o ≡ place_of x names → stands x names ≡ true → is_some o ≡ true
is_placed x names o e h = ap is_some e ∙ stands_is_placed x names ∙ h
