use Rattle.std.proofs.Common.{◌≡◌}
use Rattle.aw_term.specs.Configs.{holes as plain_holes}
use Rattle.aw_plain_rows.specs.TreeView.{values_of}
use Rattle.aw_plain.proofs.fill.holes.Given as goal

abbrev pub invariant-loop-j : goal.invariant-loop-j
invariant-loop-j l = values_of l.trees.items ≡ plain_holes l.node l.j
