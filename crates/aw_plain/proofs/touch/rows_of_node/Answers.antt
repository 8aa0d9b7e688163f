use Rattle.std.proofs.Common.{rules}
use Rattle.std.specs.Prelude.{not}
use Rattle.std.proofs.lemmas.List.Sorted.{IsPartitionPoint-from_clause}
use Rattle.aw_term.specs.Names.{node_lt}
use Rattle.aw_plain_rows.specs.declared.row.Row.{Row}
use Rattle.aw_term.proofs.NodeOrder.{node_order}
use Rattle.aw_term.proofs.ByNodeLemmas.{before_first, after_last}
use Rattle.aw_plain_rows.specs.RowView.{plain_row}
use Rattle.aw_plain.proofs.OrderedLemmas.{at_row}
use Rattle.aw_plain.proofs.TouchLemmas.{order_of_ends, outside_node}
use Rattle.aw_plain.proofs.touch.rows_of_node.Goals as goal

pub returns : goal.returns
returns c =
    let rows = c.args.rows.now in
    let n = c.args.node.now in
    let start = IsPartitionPoint-from_clause (λ (r : Row). node_lt r.node n) _ _ c.partition_point-start.ensures.partitioned
    (before_first at_row plain_row rows n c.requires) (λ a r q k. search rules) in
    let stop = IsPartitionPoint-from_clause (λ (r : Row). not (node_lt n r.node)) _ _ c.partition_point-end.ensures.partitioned
    (after_last at_row plain_row rows n c.requires) (λ a r q k. search rules) in
    record {
      order = order_of_ends node_lt node_order n rows c.partition_point-start.result c.partition_point-end.result c.partition_point-start.ensures.bound start.0 stop.1;
      within = c.partition_point-end.ensures.bound;
      outside = outside_node n rows c.partition_point-start.result c.partition_point-end.result start.0 stop.1;
    }
