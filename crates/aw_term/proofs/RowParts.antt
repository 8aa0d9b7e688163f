-- A row that is done, or of which holes are replaced, keeps its node.
use Rattle.std.proofs.Common.{◌≡◌, ℕ, zero, suc, Bool, true, false, cond, refl}
use Rattle.aw_term.specs.Names.{Node, Ref, node_eq}
use Rattle.aw_term.specs.Rules.{Value}
use Rattle.aw_term.specs.Configs.{Row, State, done_row, row_put, rounds}

pub done_node : (n : Node) (s : State) (q : Row) → (done_row n s q).node ≡ q.node
done_node n s q = cases (node_eq n q.node)
  where
    cases : (b : Bool) → (cond b (record q { state = s }) q).node ≡ q.node
    cases true = refl
    cases false = refl

pub rounds_node : (m : ℕ) (f : Ref → Value) (q : Row) → (rounds m (row_put f) q).node ≡ q.node
rounds_node zero f q = refl
rounds_node (suc m) f q = rounds_node m f (row_put f q)
