-- The program's values as plain trees.
use Rattle.std.specs.Prelude.{List, map, Bool, false, ◌||◌, cond}
use Rattle.aw_term.specs.Trees as P
use Rattle.aw_term.specs.Trees.{Leaf, Made, Nil, More}
use Rattle.aw_term.specs.Names.{Ref, result}
use Rattle.aw_term.specs.Rules as R
use Rattle.aw_plain_rows.specs.declared.tree.Tree.{Tree, Row_of-Tree, end_of-Tree, more_of-Tree}
use Rattle.aw_plain_rows.specs.declared.tree.Tree as tree

-- what a tree stands for below a constructor that is marked whole, or else
-- (below such a constructor nothing is looked for: what would be a hole there stands as 0)
abbrev mutual
  pub value_under : Bool → Tree → R.Value
  value_under w (tree.Con' c m p n parts) = Made (P.Con c) (row_under (w || m) parts)
  value_under w (tree.Num n) = Made (P.Num n) Nil
  value_under w (tree.Text t) = Made (P.Text t.value) Nil
  value_under w (tree.Hole n j) = cond w (Made (P.Num 0) Nil) (Leaf (result n j))

  pub row_under : Bool → {m : _} → Row_of-Tree m → P.Trees Ref
  row_under w end_of-Tree = Nil
  row_under w (more_of-Tree t rest) = More (value_under w t) (row_under w rest)

-- the value that a tree of the program stands for
abbrev pub value_of : Tree → R.Value
value_of = value_under false

-- the values that trees of the program stand for
abbrev pub values_of : List Tree → List R.Value
values_of ts = map value_of ts
