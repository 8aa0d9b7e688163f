-- Trees whose constructors have few parts.
use Rattle.std.specs.Prelude.{Bool, true, ◌&&◌, nat_le}
use Rattle.aw_term.specs.Trees.{Tree, Leaf, Made, Trees, Nil, More, count}
use Rattle.aw_term.specs.Limits.{most_parts}

-- each constructor has few parts
abbrev mutual
  pub is_narrow : {A : Type 0} → Tree A → Bool
  is_narrow (Leaf x) = true
  is_narrow (Made h ts) = nat_le (count ts) most_parts && are_narrow ts

  pub are_narrow : {A : Type 0} → Trees A → Bool
  are_narrow Nil = true
  are_narrow (More t ts) = is_narrow t && are_narrow ts
