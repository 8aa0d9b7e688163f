-- What is seen of held nodes: their list in order, and how many more there is room for.
use Rattle.std.specs.Prelude.{ℕ, List}
use Rattle.aw_node_list.specs.declared.held.Held.{Held}

-- nodes in their order, their numbers, and for how many more there is room
pub record Row : Type 0 where
  pub items : List Held
  pub numbers : List ℕ
  pub room : ℕ
