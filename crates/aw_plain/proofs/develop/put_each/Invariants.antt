use Rattle.std.proofs.Common.{◌≡◌, ◌++◌, map}
use Rattle.std.specs.Vec.Iter.{into_iter_items}
use Rattle.aw_plain_rows.specs.TreeView.{values_of}
use Rattle.aw_plain_rows.specs.RowView.{config_of}
use Rattle.aw_plain_rows.specs.Rounds.{row_fed}
use Rattle.aw_plain.proofs.develop.put_each.Given as goal

abbrev pub invariant-loop-row : goal.invariant-loop-row
invariant-loop-row l = config_of l.replaced.items ++ map (row_fed l.node (values_of l.results)) (config_of (into_iter_items l.row-iterator)) ≡ map
    (row_fed l.node (values_of l.results)) (config_of l.fn.rows.items)
