-- Room for the symbols of a term.
use Rattle.std.proofs.Common.{◌≡◌, ◌≢◌, ℕ, suc, ◌+◌, ◌-◌, ◌<◌, ◌≤◌, ◌⊎◌, inl, inr, ⊎_elim, List, map, max, Option, Some, None, MatchOption, sym, subst, arith}
use Rattle.aw_grammar.specs.declared.raw.RawTerm.{RawTerm}
use Rattle.aw_grammar.specs.declared.raw.RawTerm as raw
use Rattle.aw_grammar.specs.Written.{Written, Word, Apply, Literal, written_of}
use Rattle.aw_grammar.specs.Terms.{depth_of, depth_of_all, symbols_in, symbols_in_all}
use Rattle.aw_grammar.proofs.Emptying.{some_symbols}
use Rattle.aw_grammar.proofs.TermLemmas.{symbols_apply, depth_apply}

some_depth : (w : Written) → 0 < depth_of w
some_depth (Word x) = omega arith
some_depth (Apply x ts) = omega arith
some_depth (Literal h) = omega arith

-- without depth or room nothing fits
pub none_left : (t : RawTerm) (depth room : ℕ) → (depth ≡ 0) ⊎ (room ≡ 0) → (depth < depth_of (written_of t)) ⊎ (room < symbols_in (written_of t))
none_left t depth room (inl e) = inl (omega (arith, some_depth (written_of t)))
none_left t depth room (inr e) = inr (omega (arith, some_symbols (written_of t)))

-- what the answer for a term's room says, by its depth and symbols
abbrev pub Leaves : ℕ → ℕ → ℕ → ℕ → Option ℕ → Type 0
Leaves depth room deep symbols result = MatchOption result ((depth < deep) ⊎ (room < symbols)) (λ left. (deep ≤ depth) × (left + symbols ≡ room))

one_more : (depth room deep symbols : ℕ) (result : Option ℕ) → depth ≢ 0 → room ≢ 0 → Leaves (depth - 1) (room - 1) deep symbols result → Leaves depth room (suc deep) (suc symbols) result
one_more depth room deep symbols None d r (inl less) = inl (omega arith)
one_more depth room deep symbols None d r (inr less) = inr (omega arith)
one_more depth room deep symbols (Some left) d r fits = (omega (arith, fits.0), omega (arith, fits.1))

pub room_apply : (t : RawTerm) (name : List ℕ) (parts : List RawTerm) → t ≡ raw.Apply name parts → (depth room : ℕ) (result : Option ℕ) → depth ≢ 0 →
    room ≢ 0 → Leaves (depth - 1) (room - 1) (depth_of_all (map written_of parts)) (symbols_in_all (map written_of parts)) result →
    Leaves depth room (depth_of (written_of t)) (symbols_in (written_of t)) result
room_apply t name parts e depth room result d r fits =
    subst (λ w. Leaves depth room (depth_of (written_of w)) (symbols_in (written_of w)) result) (sym e)
    (subst (λ n. Leaves depth room n (symbols_in (written_of (raw.Apply name parts))) result) (sym (depth_apply name parts))
    (subst (λ n. Leaves depth room (suc (depth_of_all (map written_of parts))) n result) (sym (symbols_apply name parts))
    (one_more depth room (depth_of_all (map written_of parts)) (symbols_in_all (map written_of parts)) result d r fits)))

-- where one list of terms does not fit, the whole does not
pub room_stops : (room left deep symbols here_deep here_symbols rest_deep rest_symbols : ℕ) (result : Option ℕ) → result ≡ None →
    symbols + left ≡ room + (here_symbols + rest_symbols) → max here_deep rest_deep ≤ deep → (32 < here_deep) ⊎ (left < here_symbols) →
    Leaves 32 room deep symbols result
room_stops room left deep symbols here_deep here_symbols rest_deep rest_symbols result none sizes among fails =
    subst (λ r. Leaves 32 room deep symbols r) (sym none) (⊎_elim (λ d. inl (omega arith)) (λ s. inr (omega arith)) fails)

pub goes_symbols : (all left room next here rest after : ℕ) → all + left ≡ room + next → next ≡ here + rest → after + here ≡ left → all + after ≡ room + rest
goes_symbols all left room next here rest after h n f = omega arith

pub goes_shallow : (all next here rest : ℕ) → all ≤ max 32 next → next ≡ max here rest → here ≤ 32 → all ≤ max 32 rest
goes_shallow all next here rest h n f = omega arith

pub goes_among : (all next here rest : ℕ) → next ≤ all → next ≡ max here rest → rest ≤ all
goes_among all next here rest h n = omega arith
