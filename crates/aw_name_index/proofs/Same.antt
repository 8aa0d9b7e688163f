-- Two names are one exactly where they have the same bytes.
use Rattle.std.proofs.Common.{◌≡◌, ◌≢◌, ℕ, true, false, List, [], ◌∷◌, nat_eq, refl, ap, ◌∙◌, eq-eqb}
use Rattle.std.proofs.lemmas.Bool.{eqb-true, and_parts, or_parts}
use Rattle.aw_name_index.specs.Places.{is_same, stands}

pub same_self : (x : List ℕ) → is_same x x ≡ true
same_self [] = refl
same_self (b ∷ x) = rw (eq-eqb b b refl) (same_self x)

pub same_is : (x y : List ℕ) → is_same x y ≡ true → x ≡ y
same_is [] [] h = refl
same_is [] (b ∷ y) h = cc
same_is (a ∷ x) [] h = cc
same_is (a ∷ x) (b ∷ y) h =
    let parts = and_parts (nat_eq a b) (is_same x y) h in
    let head : a ≡ b = eqb-true a b parts.0 in
    let tail : x ≡ y = same_is x y parts.1 in cc

pub other_is_not : (x y : List ℕ) → is_same x y ≡ false → y ≢ x
other_is_not x y h e =
    let same : is_same x y ≡ true = ap (is_same x) e ∙ same_self x in cc

-- a name that does not stand is not the first, and does not stand among the others
pub stands_apart : (x y : List ℕ) (names : List (List ℕ)) → stands x (y ∷ names) ≡ false → (y ≢ x) × (stands x names ≡ false)
stands_apart x y names h =
    let parts = or_parts (is_same x y) (stands x names) h in
    (other_is_not x y parts.0, parts.1)
