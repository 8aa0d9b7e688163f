-- What arguments leave of an allowance of symbols.
use Rattle.std.specs.Prelude.{ℕ, ◌-◌, Bool, ◌&&◌, List, [], ◌∷◌, Option, None, Some, nat_le, if◌then◌else◌, option_and_then}
use Rattle.aw_term.specs.Rules.{Ground}
use Rattle.aw_term.specs.WellFormed.{heads_fit, symbols, nesting}

-- what n leave of an allowance, where all is well with them and they are no more
abbrev pub spare : Bool → ℕ → ℕ → Option ℕ
spare good n allowed = if good && nat_le n allowed then Some (allowed - n) else None

-- the heads of an argument fit, and it has no more than so many levels
abbrev pub fits_levels : List ℕ → ℕ → Ground → Bool
fits_levels arities levels t = heads_fit arities t && nat_le (nesting t) levels

-- what the symbols of an argument leave
abbrev pub left_after : List ℕ → ℕ → ℕ → Ground → Option ℕ
left_after arities levels allowed t = spare (fits_levels arities levels t) (symbols t) allowed

-- what several leave, one after the other
abbrev pub left_after_all : List ℕ → ℕ → ℕ → List Ground → Option ℕ
left_after_all arities levels allowed [] = Some allowed
left_after_all arities levels allowed (t ∷ ts) = option_and_then (λ left. left_after_all arities levels left ts) (left_after arities levels allowed t)
