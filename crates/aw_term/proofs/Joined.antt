-- What is counted of terms in a row, and the numbers from one on.
use Rattle.std.proofs.Common.{◌≡◌, ℕ, zero, suc, ◌+◌, ◌<◌, ◌≤◌, List, [], ◌∷◌, ◌++◌, length, map, get_or, refl, ap, ◌∙◌, arith}
use Rattle.aw_term.specs.Trees.{Tree, count, join}
use Rattle.aw_term.specs.Rules.{upto}
use Rattle.aw_term.specs.WellFormed.{Each, TermFits, symbols, all_symbols, symbols_of, nesting, all_nesting, leaves, all_leaves, leaves_of}
use Rattle.aw_term.specs.Views.{pattern_of}
use Rattle.aw_term.specs.declared.term.Pattern.{Pattern}

pub count_join : {A : Type 0} (ts : List (Tree A)) → count (join ts) ≡ length ts
count_join [] = refl
count_join (t ∷ ts) = ap suc (count_join ts)

pub symbols_join : {A : Type 0} (ts : List (Tree A)) → all_symbols (join ts) ≡ symbols_of ts
symbols_join [] = refl
symbols_join (t ∷ ts) = ap (λ n. symbols t + n) (symbols_join ts)

pub leaves_join : {A : Type 0} (ts : List (Tree A)) → all_leaves (join ts) ≡ leaves_of ts
leaves_join [] = refl
leaves_join (t ∷ ts) = ap (λ xs. leaves t ++ xs) (leaves_join ts)

pub shallow_join : {A : Type 0} (arities : List ℕ) (ts : List (Tree A)) → Each (TermFits arities) ts → all_nesting (join ts) ≤ 32
shallow_join arities [] fits = omega arith
shallow_join arities (t ∷ ts) fits = omega (arith, fits.0.depth, shallow_join arities ts fits.1)

-- one pattern of a row
pub symbols_at : (ps : List Pattern) (i : ℕ) (p : Pattern) → i < length ps → p ≡ get_or ps i p → symbols (pattern_of p) ≤ all_symbols (join (map pattern_of ps))
symbols_at [] i p l e = absurd (omega (arith, l))
symbols_at (q ∷ ps) zero p l e = omega (arith, ap (λ z. symbols (pattern_of z)) e)
symbols_at (q ∷ ps) (suc i) p l e = omega (arith, symbols_at ps i p (omega (arith, l)) e)

pub nesting_at : (ps : List Pattern) (i : ℕ) (p : Pattern) → i < length ps → p ≡ get_or ps i p → nesting (pattern_of p) ≤ all_nesting (join (map pattern_of ps))
nesting_at [] i p l e = absurd (omega (arith, l))
nesting_at (q ∷ ps) zero p l e = omega (arith, ap (λ z. nesting (pattern_of z)) e)
nesting_at (q ∷ ps) (suc i) p l e = omega (arith, nesting_at ps i p (omega (arith, l)) e)

pub upto_end : (i n : ℕ) → upto i (suc n) ≡ upto i n ++ (i + n) ∷ []
upto_end i zero = ap (λ k. k ∷ []) (omega arith)
upto_end i (suc n) = ap (λ ks. i ∷ ks) (upto_end (suc i) n ∙ ap (λ k. upto (suc i) n ++ k ∷ []) (omega arith))
