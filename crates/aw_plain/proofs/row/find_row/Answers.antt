use Rattle.std.proofs.Common.{rules, refl, ◌∙◌, sym, length}
use Rattle.std.proofs.lemmas.List.Sorted.{IsPartitionPoint-from_clause}
use Rattle.std.proofs.lemmas.Option.{slice_get_read, slice_get_past}
use Rattle.aw_term.specs.Names.{node_lt}
use Rattle.aw_plain_rows.specs.declared.row.Row.{Row}
use Rattle.aw_term.proofs.ByNodeLemmas.{before_first, found_here, found_nowhere, other_here, nothing_here}
use Rattle.aw_plain_rows.specs.RowView.{plain_row}
use Rattle.aw_plain.proofs.OrderedLemmas.{at_row}
use Rattle.aw_plain.proofs.row.find_row.Goals as goal
use Rattle.aw_plain.proofs.row.find_row.Goals.{in_default-via-in-Some+else-is_node, in_default-via-in_default}

pub returns-in-Some : goal.returns-in-Some
returns-in-Some c =
    let rows = c.args.rows.now in
    let n = c.args.node.now in
    let at = c.partition_point-at.result in
    let point = IsPartitionPoint-from_clause (λ (r : Row). node_lt r.node n) _ _ c.partition_point-at.ensures.partitioned (before_first at_row plain_row rows n c.requires) (λ a r q k. search rules) in
    let found = c.in-Some.ensures.lookup in
    sym (found_here at_row plain_row rows n at c.in-Some.row.now point.0 (slice_get_read rows (length rows) at c.in-Some.row.now refl found.3.0 found.1) (sym c.is_node.ensures ∙ c.if-is_node.true))

pub returns-in_default : goal.returns-in_default
returns-in_default c =
    let rows = c.args.rows.now in
    let n = c.args.node.now in
    let at = c.partition_point-at.result in
    let point = IsPartitionPoint-from_clause (λ (r : Row). node_lt r.node n) _ _ c.partition_point-at.ensures.partitioned (before_first at_row plain_row rows n c.requires) (λ a r q k. search rules) in
    sym (found_nowhere at_row plain_row rows n at c.requires point.0 point.1 (λ row here. elim c.in_default.branch [
      | in_default-via-in-Some+else-is_node w ↦ (let found = w.in-Some.ensures.lookup in
          other_here at_row plain_row rows n at row w.in-Some.row.now here (slice_get_read rows (length rows) at w.in-Some.row.now refl found.3.0 found.1) (sym w.is_node.ensures ∙ w.if-is_node.false))
      | in_default-via-in_default w ↦ nothing_here at_row plain_row rows n at row here (slice_get_past rows at w.in_default.ensures.lookup.3)
    ]))
