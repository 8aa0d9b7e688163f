use Rattle.std.proofs.Common.{◌≡◌, ℕ, length}
use Rattle.aw_iograph.specs.Arcs.{IsStep}
use Rattle.aw_iograph.specs.Rows.{IsIn, AreLed, room}
use Rattle.aw_iograph.proofs.joins.join_all.Given as goal

abbrev pub invariant-loop : goal.invariant-loop
invariant-loop l =
    record {
      size : length l.rows.items ≡ 144;
      places : length l.read.items ≡ 144;
      kept : (v i : ℕ) → IsIn l.initial.rows.items v i → IsIn l.rows.items v i;
      led : AreLed (IsStep l.entries l.io l.rule.children l.rule.results) l.initial.rows.items → AreLed (IsStep l.entries l.io l.rule.children l.rule.results) l.rows.items;
    }

abbrev pub decreases-loop : goal.decreases-loop
decreases-loop l = room l.rows.items
