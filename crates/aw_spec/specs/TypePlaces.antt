-- Where a name stands among others, counted on from a number.
use Rattle.std.specs.Prelude.{ℕ, suc, List, [], ◌∷◌, Option, Some, None, if◌then◌else◌}
use Rattle.aw_name_index.specs.Places.{is_same}

-- where a name stands first, counted on from i
abbrev pub place_from : ℕ → List ℕ → List (List ℕ) → Option ℕ
place_from i x [] = None
place_from i x (y ∷ ys) = if is_same x y then Some i else place_from (suc i) x ys
