-- The text of a node's name, with the places in it where the names of the nodes above end.
use Rattle.std.specs.Prelude.{◌≡◌, ℕ, suc, List, take, length, Some, slice_get}
use Rattle.aw_term.specs.Names.{Node}
use Rattle.aw_term.specs.Artifacts.{Words, node_text}

-- the node that the first so many steps of a node lead to
abbrev pub front : ℕ → Node → Node
front j n = record { start = n.start; case = n.case; steps = take j n.steps }

-- The text is that of the front with one step less than there are ends, if there are any. Each end tells where in it the front with so
-- many steps ends, from that with no steps on.
pub record AreFronts (w : Words) (n : Node) (text ends : List ℕ) : Type 0 where
  pub last : (k : ℕ) → length ends ≡ suc k → text ≡ node_text w (front k n)
  pub each : (j end : ℕ) → slice_get ends j ≡ Some end → end ≡ length (node_text w (front j n))
