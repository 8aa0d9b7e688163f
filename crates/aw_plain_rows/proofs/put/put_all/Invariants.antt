use Rattle.std.proofs.Common.{◌≡◌, ◌∷◌, []}
use Rattle.aw_term.specs.Trees.{bind}
use Rattle.aw_term.specs.Configs.{put}
use Rattle.aw_plain_rows.specs.TreeView.{value_of, values_of}
use Rattle.aw_plain_rows.specs.Jobs.{finish, work}
use Rattle.aw_plain_rows.proofs.put.put_all.Given as goal

abbrev pub invariant-loop-job : goal.invariant-loop-job
invariant-loop-job l = finish (put l.node (values_of l.results)) l.todo.items (values_of l.values.items) ≡ bind (put l.node (values_of l.results)) (value_of l.tree) ∷ []

abbrev pub decreases-loop-job : goal.decreases-loop-job
decreases-loop-job l = work l.todo.items
