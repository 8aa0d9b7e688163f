use Rattle.std.proofs.Common.{rules, subst, sym, ap, ◌∙◌}
use Rattle.std.specs.Vec.Iter.{into_iter_items}
use Rattle.aw_term.specs.Configs.{insert_rows}
use Rattle.aw_plain_rows.specs.RowView.{plain_row, config_of}
use Rattle.aw_plain.specs.Ordered.{IsOrdered}
use Rattle.aw_term.proofs.ByNodeLemmas.{ordered_inserted}
use Rattle.aw_plain.proofs.OrderedLemmas.{at_row}
use Rattle.aw_plain.proofs.row.add_rows.Goals as goal

pub loop-row-preserved : goal.loop-row-preserved
loop-row-preserved c = record {
  items = ap (insert_rows (config_of (into_iter_items c.next.new.self))) c.put_between.ensures.items
      ∙ ap (λ rs. insert_rows (config_of rs) (config_of c.loop-row.rows.items)) (sym c.in-Some.ensures.steps.0)
      ∙ c.loop-row.invariant.items;
  ordered = subst IsOrdered (sym c.put_between.ensures.items) (ordered_inserted at_row (plain_row c.in-Some.row) (config_of c.loop-row.rows.items) c.loop-row.invariant.ordered);
  room = search rules;
}
