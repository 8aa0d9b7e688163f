-- Texts with separators between them.
use Rattle.std.proofs.Common.{◌≡◌, ℕ, ◌-◌, ◌≤◌, List, [], ◌∷◌, ◌++◌, length, map, take, drop, get_or, codes, flat_map, refl, ap, sym, ◌∙◌, arith, append_assoc, append-nil}
use Rattle.std.proofs.lemmas.List.{take_all}
use Rattle.std.specs.Prelude.{Result, Ok, Err, OnOk}
use Rattle.aw_term.specs.Artifacts.{listed}

-- the first, and each other one behind a separator
pub listed_first : {A : Type 0} (f : A → List ℕ) (x : A) (xs : List A) → listed (map f (x ∷ xs)) ≡ f x ++ flat_map (λ y. codes ", " ++ f y) xs
listed_first f x [] = sym (append-nil (f x))
listed_first f x (y ∷ ys) = ap (λ t. f x ++ t) (ap (λ t. codes ", " ++ t) (listed_first f y ys) ∙ sym (append_assoc (codes ", ") (f y) (flat_map (λ z. codes ", " ++ f z) ys)))

pub listed_split : {A : Type 0} (f : A → List ℕ) (xs : List A) (x : A) (rest : List A) → 1 ≤ length xs → x ≡ get_or xs 0 x → rest ≡ drop 1 xs →
    f x ++ flat_map (λ y. codes ", " ++ f y) rest ≡ listed (map f xs)
listed_split f [] x rest l e d = absurd (omega (arith, l))
listed_split f (y ∷ ys) x rest l e d = ap (λ t. f x ++ flat_map (λ z. codes ", " ++ f z) t) d ∙ ap (λ t. f t ++ flat_map (λ z. codes ", " ++ f z) ys) e ∙ sym (listed_first f y ys)

-- a text to which two texts were added
pub added_twice : {T E : Type 0} (r : Result T E) (new mid old first rest whole : List ℕ) → mid ≡ old ++ first → first ++ rest ≡ whole → OnOk r (new ≡ mid ++ rest) → OnOk r (new ≡ old ++ whole)
added_twice (Ok x) new mid old first rest whole e f w = w ∙ ap (λ t. t ++ rest) e ∙ append_assoc old first rest ∙ ap (λ t. old ++ t) f
added_twice (Err x) new mid old first rest whole e f w = w

-- what stands behind the first
pub all_behind : {A : Type 0} (xs : List A) → take (length xs - 1) (drop 1 xs) ≡ drop 1 xs
all_behind [] = refl
all_behind (x ∷ xs) = take_all (length (x ∷ xs) - 1) xs (omega arith)
