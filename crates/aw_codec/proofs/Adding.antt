-- Adding at the end of a text, one part after the other.
use Rattle.std.proofs.Common.{◌≡◌, ℕ, zero, suc, ◌+◌, ◌<◌, List, [], ◌∷◌, ◌++◌, length, get_or, take, map, sym, ap, subst, ◌∙◌, append_assoc, arith}
use Rattle.std.specs.List.{flat_map}
use Rattle.std.proofs.lemmas.List.{take_more, map-append, flat_map_more}
use Rattle.aw_term.proofs.Eaches.{each_push}
use Rattle.aw_term.specs.WellFormed.{Each}

-- one more of a list
pub one_more : {A : Type 0} (spelled : A → List ℕ) (xs : List A) (i : ℕ) (x : A) (old text new : List ℕ) → i < length xs → x ≡ get_or xs i x →
    text ≡ old ++ flat_map spelled (take i xs) → new ≡ text ++ spelled x
    → new ≡ old ++ flat_map spelled (take (i + 1) xs)
one_more spelled xs i x old text new lt is so_far e =
    e ∙ ap (λ t. t ++ spelled x) so_far ∙ flat_map_more spelled old (take i xs) x
    ∙ ap (λ ys. old ++ flat_map spelled ys) (sym (take_more xs i x lt ∙ ap (λ y. take i xs ++ y ∷ []) (sym is)))

pub two : (old a b : List ℕ) (middle new : List ℕ) → middle ≡ old ++ a → new ≡ middle ++ b → new ≡ old ++ (a ++ b)
two old a b middle new e f = f ∙ ap (λ t. t ++ b) e ∙ append_assoc old a b

pub each_at : {A B : Type 0} (P : B → Type 0) (view : A → B) (xs : List A) (i : ℕ) (x : A) → i < length xs → Each P (map view xs) → P (view (get_or xs i x))
each_at P view [] i x lt h = absurd (none i lt)
  where
    none : (i : ℕ) → i < 0 → ⊥
    none i lt = omega arith
each_at P view (y ∷ ys) zero x lt h = h.0
each_at P view (y ∷ ys) (suc i) x lt h = each_at P view ys i x (less i (length ys) lt) h.1
  where
    less : (i n : ℕ) → suc i < suc n → i < n
    less i n lt = omega arith

-- what holds of each of a front, and of the one behind it
pub each_more : {A : Type 0} (P : A → Type 0) (xs : List A) (i : ℕ) (x : A) → i < length xs → x ≡ get_or xs i x → Each P (take i xs) → P x → Each P (take (i + 1) xs)
each_more P xs i x lt is each here =
    subst (Each P) (sym (take_more xs i x lt ∙ ap (λ y. take i xs ++ y ∷ []) (sym is))) (each_push P (take i xs) x each here)

-- the same of what a view shows of them
pub each_more_seen : {A B : Type 0} (P : B → Type 0) (view : A → B) (xs : List A) (i : ℕ) (x : A) → i < length xs → x ≡ get_or xs i x →
    Each P (map view (take i xs)) → P (view x) → Each P (map view (take (i + 1) xs))
each_more_seen P view xs i x lt is each here =
    subst (Each P) (sym (ap (map view) (take_more xs i x lt ∙ ap (λ y. take i xs ++ y ∷ []) (sym is)) ∙ map-append view (take i xs) (x ∷ []))) (each_push P (map view (take i xs)) (view x) each here)
