-- One step of a walk over a list, for what is gathered and for what is tested.
use Rattle.std.proofs.Common.{◌≡◌, ℕ, ◌+◌, ◌<◌, Bool, true, false, ◌&&◌, ◌||◌, List, ◌∷◌, ◌++◌, length, drop, get_or, sym, ap, ◌∙◌, append_assoc}
use Rattle.std.proofs.lemmas.List.{at_drop_more}

-- what is left begins with the item at this place
pub rest_is : {X Y : Type 0} (F : List X → Y) (xs : List X) (i : ℕ) (x : X) → i < length xs → x ≡ get_or xs i x → F (drop i xs) ≡ F (x ∷ drop (i + 1) xs)
rest_is F xs i x less e = at_drop_more F xs i x less ∙ ap (λ y. F (y ∷ drop (i + 1) xs)) (sym e)

pub and_stops : {X : Type 0} (F : List X → Bool) (xs : List X) (i : ℕ) (x : X) (here : Bool) → i < length xs → x ≡ get_or xs i x →
    F (x ∷ drop (i + 1) xs) ≡ (here && F (drop (i + 1) xs)) → here ≡ false → (all : Bool) → F (drop i xs) ≡ all → false ≡ all
and_stops F xs i x here less e step fails all so_far = sym (sym so_far ∙ rest_is F xs i x less e ∙ step ∙ ap (λ b. b && F (drop (i + 1) xs)) fails)

pub and_goes : {X : Type 0} (F : List X → Bool) (xs : List X) (i : ℕ) (x : X) (here : Bool) → i < length xs → x ≡ get_or xs i x →
    F (x ∷ drop (i + 1) xs) ≡ (here && F (drop (i + 1) xs)) → here ≡ true → (all : Bool) → F (drop i xs) ≡ all → F (drop (i + 1) xs) ≡ all
and_goes F xs i x here less e step holds all so_far = sym (rest_is F xs i x less e ∙ step ∙ ap (λ b. b && F (drop (i + 1) xs)) holds) ∙ so_far

pub or_stops : {X : Type 0} (F : List X → Bool) (xs : List X) (i : ℕ) (x : X) (here : Bool) → i < length xs → x ≡ get_or xs i x →
    F (x ∷ drop (i + 1) xs) ≡ (here || F (drop (i + 1) xs)) → here ≡ true → (any : Bool) → F (drop i xs) ≡ any → true ≡ any
or_stops F xs i x here less e step holds any so_far = sym (sym so_far ∙ rest_is F xs i x less e ∙ step ∙ ap (λ b. b || F (drop (i + 1) xs)) holds)

pub or_goes : {X : Type 0} (F : List X → Bool) (xs : List X) (i : ℕ) (x : X) (here : Bool) → i < length xs → x ≡ get_or xs i x →
    F (x ∷ drop (i + 1) xs) ≡ (here || F (drop (i + 1) xs)) → here ≡ false → (any : Bool) → F (drop i xs) ≡ any → F (drop (i + 1) xs) ≡ any
or_goes F xs i x here less e step fails any so_far = sym (rest_is F xs i x less e ∙ step ∙ ap (λ b. b || F (drop (i + 1) xs)) fails) ∙ so_far

-- what the item gives moves from what is left to what is gathered
pub gathers : {X Y : Type 0} (F : List X → List Y) (xs : List X) (i : ℕ) (x : X) (here : List Y) → i < length xs → x ≡ get_or xs i x →
    F (x ∷ drop (i + 1) xs) ≡ here ++ F (drop (i + 1) xs) → (old new all : List Y) → new ≡ old ++ here → old ++ F (drop i xs) ≡ all →
    new ++ F (drop (i + 1) xs) ≡ all
gathers F xs i x here less e step old new all pushed so_far =
    ap (λ ys. ys ++ F (drop (i + 1) xs)) pushed ∙ append_assoc old here (F (drop (i + 1) xs))
    ∙ sym (ap (λ ys. old ++ ys) (rest_is F xs i x less e ∙ step)) ∙ so_far
