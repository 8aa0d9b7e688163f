-- Which declaration a name means.
use Rattle.std.specs.Prelude.{ℕ, List, Option}
use Rattle.aw_name_index.specs.Places.{place_of}

-- the position of a name among those that are declared
abbrev pub number_named : List (List ℕ) → List ℕ → Option ℕ
number_named names name = place_of name names
