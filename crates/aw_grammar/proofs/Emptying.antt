-- What is left of a term that is emptied without a stack.
use Rattle.std.proofs.Common.{◌≡◌, ℕ, ◌+◌, ◌*◌, ◌<◌, ◌≤◌, List, [], ◌∷◌, ◌++◌, map, insert, Option, Some, None, arith, refl}
use Rattle.std.specs.declared.vec.Vec.{Vec}
use Rattle.std.specs.declared.alloc.Global.{Global}
use Rattle.aw_grammar.specs.declared.raw.RawTerm.{RawTerm}
use Rattle.aw_grammar.specs.Written.{Written, Word, Apply, Literal, written_of}
use Rattle.aw_grammar.specs.Terms.{symbols_in, symbols_in_all}

abbrev pub symbols_left : List RawTerm → ℕ
symbols_left ts = symbols_in_all (map written_of ts)

-- the symbols of the list that is open
abbrev pub symbols_open : Option (Vec RawTerm Global) → ℕ
symbols_open None = 0
symbols_open (Some v) = symbols_left v.items

-- the pair of t and h in lexicographic order, where h is at most t
abbrev pub rank : ℕ → ℕ → ℕ
rank t h = t * t + h

pub left_append : (ts us : List RawTerm) → symbols_left (ts ++ us) ≡ symbols_left ts + symbols_left us
left_append [] us = omega arith
left_append (t ∷ ts) us = omega (arith, left_append ts us)

pub left_insert : (ts : List RawTerm) (t : RawTerm) → symbols_left (insert ts 0 t) ≡ symbols_in (written_of t) + symbols_left ts
left_insert [] t = refl
left_insert (u ∷ ts) t = refl

pub some_symbols : (w : Written) → 0 < symbols_in w
some_symbols (Word x) = omega arith
some_symbols (Apply x ts) = omega arith
some_symbols (Literal h) = omega arith

pub falls_hand : (t h u k : ℕ) → u ≤ t → k < h → rank u k < rank t h
falls_hand t h u k p q = grind arith

pub falls_all : (t h u k : ℕ) → u < t → k ≤ u → rank u k < rank t h
falls_all t h u k p q = grind arith
