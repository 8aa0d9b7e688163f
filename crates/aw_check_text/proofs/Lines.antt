-- Lines that are added one number after the other.
use Rattle.std.proofs.Common.{◌≡◌, ℕ, zero, suc, ◌+◌, List, ◌++◌, flat_map, sym, ap, ◌∙◌, arith, append_assoc, append-nil}
use Rattle.aw_term.specs.Rules.{upto}

-- one number more
flat-more : (f : ℕ → List ℕ) (n k : ℕ) → flat_map f (upto n (suc k)) ≡ flat_map f (upto n k) ++ f (n + k)
flat-more f n zero = let e : n + 0 ≡ n = omega arith in append-nil (f n) ∙ ap f (sym e)
flat-more f n (suc k) =
    let e : suc n + k ≡ n + suc k = omega arith in
    ap (λ ls. f n ++ ls) (flat-more f (suc n) k)
    ∙ sym (append_assoc (f n) (flat_map f (upto (suc n) k)) (f (suc n + k)))
    ∙ ap (λ m. flat_map f (upto n (suc k)) ++ f m) e

-- the lines of number m were added to those of the k numbers before it
pub lines-next : (f : ℕ → List ℕ) (n k m : ℕ) (start text next : List ℕ) → m ≡ n + k → text ≡ start ++ flat_map f (upto n k) → next ≡ text ++ f m → next ≡ start ++ flat_map f (upto n (k + 1))
lines-next f n k m start text next at so step =
    let e : k + 1 ≡ suc k = omega arith in
    step ∙ ap (λ t. t ++ f m) so ∙ append_assoc start (flat_map f (upto n k)) (f m)
    ∙ ap (λ i. start ++ (flat_map f (upto n k) ++ f i)) at
    ∙ ap (λ ls. start ++ ls) (sym (flat-more f n k)) ∙ ap (λ i. start ++ flat_map f (upto n i)) (sym e)

-- all were added
pub lines-all : (f : ℕ → List ℕ) (n k m : ℕ) (start text : List ℕ) → k ≡ m → text ≡ start ++ flat_map f (upto n k) → text ≡ start ++ flat_map f (upto n m)
lines-all f n k m start text at so = so ∙ ap (λ i. start ++ flat_map f (upto n i)) at
