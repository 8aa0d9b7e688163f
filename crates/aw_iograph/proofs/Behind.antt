-- Loops that append: what is done, followed by what the rest gives, is always the same.
use Rattle.std.proofs.Common.{◌≡◌, ℕ, suc, ◌+◌, ◌-◌, ◌<◌, ◌≤◌, List, [], ◌∷◌, ◌++◌, map, length, drop, replicate, refl, sym, ap, ◌∙◌, arith, get_or, append_assoc}
use Rattle.std.proofs.lemmas.List.{append-nil, at_drop_more, at_drop_all}
use Rattle.aw_term.specs.Rules.{upto}

pub behind_more : {A B : Type 0} (F : ℕ → List A → List B) (f : ℕ → A → List B) → ((n : ℕ) (x : A) (xs : List A) → F n (x ∷ xs) ≡ f n x ++ F (suc n) xs) →
    (xs : List A) (i n m : ℕ) (x : A) (done next total : List B) → i < length xs → x ≡ get_or xs i x → m ≡ suc n → next ≡ done ++ f n x →
    done ++ F n (drop i xs) ≡ total → next ++ F m (drop (i + 1) xs) ≡ total
behind_more F f eq xs i n m x done next total lt at up step e =
    ap (λ ys. ys ++ F m (drop (i + 1) xs)) step ∙ ap (λ k. (done ++ f n x) ++ F k (drop (i + 1) xs)) up ∙ append_assoc done (f n x) (F (suc n) (drop (i + 1) xs))
    ∙ ap (λ ys. done ++ ys) (sym (eq n x (drop (i + 1) xs)) ∙ ap (λ y. F n (y ∷ drop (i + 1) xs)) at ∙ sym (at_drop_more (F n) xs i x lt)) ∙ e

pub behind_all : {A B : Type 0} (F : ℕ → List A → List B) → ((n : ℕ) → F n [] ≡ []) → (xs : List A) (i n : ℕ) (done total : List B) → length xs ≤ i → done ++ F n (drop i xs) ≡ total → done ≡ total
behind_all F none xs i n done total le e = sym (append-nil done) ∙ ap (λ ys. done ++ ys) (sym (none n) ∙ sym (at_drop_all (F n) xs i le)) ∙ e

pub upto_more : (n m i : ℕ) → i < m → upto n (m - i) ≡ n ∷ upto (suc n) (m - (i + 1))
upto_more n m i lt = let e : m - i ≡ suc (m - (i + 1)) = omega arith in ap (upto n) e

pub upto_step : {B : Type 0} (f : ℕ → B) (n m i j : ℕ) (done total : List B) → i < m → n ≡ i + 1 → j ≡ suc n →
    done ++ map f (upto n (m - i)) ≡ total → (done ++ f (i + 1) ∷ []) ++ map f (upto j (m - (i + 1))) ≡ total
upto_step f n m i j done total lt at next e =
    ap (λ k. (done ++ f k ∷ []) ++ map f (upto j (m - (i + 1)))) (sym at) ∙ ap (λ k. (done ++ f n ∷ []) ++ map f (upto k (m - (i + 1)))) next
    ∙ append_assoc done (f n ∷ []) (map f (upto (suc n) (m - (i + 1)))) ∙ ap (λ ns. done ++ map f ns) (sym (upto_more n m i lt)) ∙ e

pub copies_step : {B : Type 0} (x : B) (m i : ℕ) (done total : List B) → i < m → done ++ replicate (m - i) x ≡ total → (done ++ x ∷ []) ++ replicate (m - (i + 1)) x ≡ total
copies_step x m i done total lt e = let next : m - i ≡ suc (m - (i + 1)) = omega arith in append_assoc done (x ∷ []) (replicate (m - (i + 1)) x) ∙ ap (λ k. done ++ replicate k x) (sym next) ∙ e

pub copies_next : {B : Type 0} (x : B) (m i : ℕ) (done next total : List B) → i < m → next ≡ done ++ x ∷ [] → done ++ replicate (m - i) x ≡ total → next ++ replicate (m - (i + 1)) x ≡ total
copies_next x m i done next total lt step e = ap (λ ys. ys ++ replicate (m - (i + 1)) x) step ∙ copies_step x m i done total lt e

pub upto_next : {B : Type 0} (f : ℕ → B) (m i : ℕ) (done next total : List B) → i < m → next ≡ done ++ f (i + 1) ∷ [] →
    done ++ map f (upto (i + 1) (m - i)) ≡ total → next ++ map f (upto (i + 1 + 1) (m - (i + 1))) ≡ total
upto_next f m i done next total lt step e = ap (λ ys. ys ++ map f (upto (i + 1 + 1) (m - (i + 1)))) step ∙ upto_step f (i + 1) m i (i + 1 + 1) done total lt refl (omega arith) e
