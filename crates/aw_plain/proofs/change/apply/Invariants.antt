use Rattle.std.proofs.Common.{◌≡◌}
use Rattle.std.specs.Prelude.{vec_len, vec_capacity}
use Rattle.std.specs.Vec.Iter.{into_iter_items}
use Rattle.aw_plain.specs.Changes.{changed}
use Rattle.aw_plain.proofs.change.apply.Given as goal

abbrev pub invariant-loop-change : goal.invariant-loop-change
invariant-loop-change l = record {
  items : changed l.rows.items (into_iter_items l.change-iterator) ≡ changed l.fn.rows.items l.fn.changes.items;
  len : vec_len l.rows ≡ vec_len l.fn.rows;
  room : vec_capacity l.rows ≡ vec_capacity l.fn.rows;
}
