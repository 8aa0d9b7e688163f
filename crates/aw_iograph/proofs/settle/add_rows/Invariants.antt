use Rattle.std.proofs.Common.{◌≡◌, ℕ, ◌<◌}
use Rattle.std.specs.Prelude.{◌⊎◌}
use Rattle.aw_iograph.specs.Growth.{Grown}
use Rattle.aw_iograph.specs.Occurrences.{inherited, given, place_of}
use Rattle.aw_iograph.specs.Rows.{IsIn}
use Rattle.aw_iograph.specs.Pairs.{Has, IsNumber}
use Rattle.aw_iograph.proofs.settle.add_rows.Given as goal

abbrev pub invariant-loop-j : goal.invariant-loop-j
invariant-loop-j l =
    record {
      grown : Grown l.initial.io.marks.items l.io.marks.items l.added;
      there : (j : ℕ) → j < l.j → (i : ℕ) → IsNumber i → IsNumber j → IsIn l.rows (place_of (given 0 j)) (place_of (inherited 0 i)) → Has l.io l.sort i j;
      only : (s k j : ℕ) → Has l.io s k j → Has l.initial.io s k j ⊎ ((s ≡ l.sort) × IsIn l.rows (place_of (given 0 j)) (place_of (inherited 0 k)));
    }
