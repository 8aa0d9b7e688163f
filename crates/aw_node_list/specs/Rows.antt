-- The row that a holding is seen as.
use Rattle.std.specs.Prelude.{◌≡◌, ℕ, ◌-◌, ◌^◌, length, min, vec_len, vec_capacity}
use Rattle.aw_node_list.specs.Row.{Row}
use Rattle.aw_node_list.specs.Picked.{picked, AreKnown, AreApart}
use Rattle.aw_node_list.specs.declared.holding.Holding.TheInside.{Inside}

-- so many more fit into both lists, and have a number
abbrev pub room_of : Inside → ℕ
room_of a = min (min a.order.room (vec_capacity a.nodes - vec_len a.nodes)) (2 ^ 32 - vec_len a.nodes)

-- the nodes in the order of the numbers
abbrev pub row_of : Inside → Row
row_of a = record { items = picked a.order.items a.nodes.items; numbers = a.order.items; room = room_of a }

-- Each number has a node, and none stands twice.
pub record IsWhole (a : Inside) : Type 0 where
  pub known : AreKnown a.order.items a.nodes.items
  pub apart : AreApart a.order.items
  pub filled : length a.order.items ≡ vec_len a.nodes
