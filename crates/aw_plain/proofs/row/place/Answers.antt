use Rattle.std.proofs.Common.{rules}
use Rattle.std.specs.Prelude.{not}
use Rattle.std.proofs.lemmas.List.Sorted.{IsPartitionPoint-from_clause}
use Rattle.aw_term.specs.Names.{node_lt}
use Rattle.aw_plain_rows.specs.declared.row.Row.{Row}
use Rattle.aw_term.proofs.ByNodeLemmas.{after_last, inserted_at}
use Rattle.aw_plain_rows.specs.RowView.{plain_row}
use Rattle.aw_plain.proofs.OrderedLemmas.{at_row}
use Rattle.aw_plain.proofs.row.place.Goals as goal

pub returns-clause-value : goal.returns-clause-value
returns-clause-value c =
    let rows = c.args.rows.now in
    let n = c.args.node.now in
    let point = IsPartitionPoint-from_clause (λ (r : Row). not (node_lt n r.node)) _ _ c.partition_point.ensures.partitioned
    (after_last at_row plain_row rows n c.requires) (λ a r q k. search rules) in
    inserted_at at_row plain_row rows n c.partition_point.result c.partition_point.ensures.bound point.0 point.1
