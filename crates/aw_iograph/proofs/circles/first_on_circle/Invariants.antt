use Rattle.std.proofs.Common.{ℕ, ◌<◌}
use Rattle.aw_iograph.specs.Rows.{IsInOwnRow}
use Rattle.aw_iograph.proofs.circles.first_on_circle.Given as goal

abbrev pub invariant-loop-bit : goal.invariant-loop-bit
invariant-loop-bit l = (m : ℕ) → m < l.bit → IsInOwnRow l.rows m → ⊥
