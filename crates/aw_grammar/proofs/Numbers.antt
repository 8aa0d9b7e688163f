-- The number of a name is its place.
use Rattle.std.proofs.Common.{◌≡◌, ℕ, List, refl}
use Rattle.aw_name_index.specs.Places.{place_of}
use Rattle.aw_grammar.specs.Named.{number_named}

pub number_is_place : (names : List (List ℕ)) (x : List ℕ) → place_of x names ≡ number_named names x
number_is_place names x = refl
