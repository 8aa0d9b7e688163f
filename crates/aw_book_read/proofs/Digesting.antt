-- How the front of a file grows by what stands behind it.
use Rattle.std.proofs.Common.{◌≡◌, ℕ, ◌+◌, List, ◌++◌, take, drop, sym, ap, ◌∙◌, arith}
use Rattle.std.proofs.lemmas.List.{drop-take, take-append-drop, take-take}

-- the first n + m bytes are the first n and the m behind them
take_more : (xs : List ℕ) (n m : ℕ) → take (n + m) xs ≡ take n xs ++ take m (drop n xs)
take_more xs n m =
    let whole = take-append-drop n (take (n + m) xs) in
    sym (rw (take-take n (n + m) xs (omega arith), drop-take n m xs) at whole)

-- the bytes before a place, and those that were read there
pub taken_more : (xs bytes : List ℕ) (n m : ℕ) → take m bytes ≡ take m (drop n xs) → take n xs ++ take m bytes ≡ take (n + m) xs
taken_more xs bytes n m same = ap (λ (l : List ℕ). take n xs ++ l) same ∙ sym (take_more xs n m)
