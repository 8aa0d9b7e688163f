use Rattle.std.proofs.Common.{rules}
use Rattle.std.specs.Prelude.{not}
use Rattle.std.proofs.lemmas.List.Sorted.{IsPartitionPoint-from_clause}
use Rattle.aw_plain.specs.Cases.{case_lt}
use Rattle.aw_plain_rows.specs.declared.row.Row.{Row}
use Rattle.aw_plain.proofs.CaseOrder.{case_order}
use Rattle.aw_plain.proofs.TouchLemmas.{case_starts, case_ends, order_of_ends, outside_case}
use Rattle.aw_plain.proofs.touch.rows_of_case.Goals as goal

pub returns : goal.returns
returns c =
    let rows = c.args.rows.now in
    let n = c.args.node.now in
    let start = IsPartitionPoint-from_clause (λ (r : Row). case_lt r.node n) _ _ c.partition_point-start.ensures.partitioned (case_starts rows n c.requires) (λ a r q k. search rules) in
    let stop = IsPartitionPoint-from_clause (λ (r : Row). not (case_lt n r.node)) _ _ c.partition_point-end.ensures.partitioned (case_ends rows n c.requires) (λ a r q k. search rules) in
    record {
      order = order_of_ends case_lt case_order n rows c.partition_point-start.result c.partition_point-end.result c.partition_point-start.ensures.bound start.0 stop.1;
      within = c.partition_point-end.ensures.bound;
      outside = outside_case n rows c.partition_point-start.result c.partition_point-end.result start.0 stop.1;
    }
