use Rattle.std.proofs.Common.{◌≡◌, ◌+◌, ◌≤◌, length}
use Rattle.std.specs.Prelude.{vec_len, vec_capacity}
use Rattle.std.specs.Vec.Iter.{into_iter_items}
use Rattle.aw_term.specs.Configs.{insert_rows}
use Rattle.aw_plain_rows.specs.RowView.{config_of}
use Rattle.aw_plain.specs.Ordered.{IsOrdered}
use Rattle.aw_plain.proofs.row.add_rows.Given as goal

abbrev pub invariant-loop-row : goal.invariant-loop-row
invariant-loop-row l = record {
  items : insert_rows (config_of (into_iter_items l.row-iterator)) (config_of l.rows.items) ≡ insert_rows (config_of l.fn.more.items) (config_of l.fn.rows.items);
  ordered : IsOrdered (config_of l.rows.items);
  room : vec_len l.rows + length (into_iter_items l.row-iterator) ≤ vec_capacity l.rows;
}
