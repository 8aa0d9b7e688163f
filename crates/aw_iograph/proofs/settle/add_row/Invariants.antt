use Rattle.std.proofs.Common.{◌≡◌, ℕ, ◌-◌, ◌<◌}
use Rattle.std.specs.Prelude.{◌⊎◌}
use Rattle.aw_iograph.specs.Growth.{Grown}
use Rattle.aw_iograph.specs.Rows.{HasBit}
use Rattle.aw_iograph.specs.Pairs.{Has, IsNumber}
use Rattle.aw_iograph.proofs.settle.add_row.Given as goal

abbrev pub invariant-loop-i : goal.invariant-loop-i
invariant-loop-i l =
    record {
      grown : Grown l.initial.io.marks.items l.io.marks.items l.added;
      there : (i : ℕ) → i < l.i → IsNumber i → HasBit l.row (i - 1) → Has l.io l.sort i l.j;
      only : (s k j : ℕ) → Has l.io s k j → Has l.initial.io s k j ⊎ ((s ≡ l.sort) × (j ≡ l.j) × HasBit l.row (k - 1));
    }
