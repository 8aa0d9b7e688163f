use Rattle.std.proofs.Common.{◌≡◌, map, take, true}
use Rattle.aw_plain_rows.specs.TreeView.{value_under, values_of}
use Rattle.aw_plain_rows.proofs.put.are_whole.Given as goal

abbrev pub invariant-loop-tree : goal.invariant-loop-tree
invariant-loop-tree l = map (value_under true) (take l.tree-index l.trees) ≡ values_of (take l.tree-index l.trees)
