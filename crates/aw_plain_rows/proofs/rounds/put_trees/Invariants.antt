use Rattle.std.proofs.Common.{◌≡◌, map, take}
use Rattle.aw_term.specs.Trees.{bind}
use Rattle.aw_term.specs.Configs.{put}
use Rattle.aw_plain_rows.specs.TreeView.{values_of}
use Rattle.aw_plain_rows.proofs.rounds.put_trees.Given as goal

abbrev pub invariant-loop-tree : goal.invariant-loop-tree
invariant-loop-tree l = values_of l.replaced.items ≡ map (bind (put l.node (values_of l.results))) (values_of (take l.tree-index l.trees))
