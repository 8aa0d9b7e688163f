use Rattle.std.proofs.Common.{◌≡◌, map, take}
use Rattle.aw_term.specs.Configs.{lift as plain_lift}
use Rattle.aw_term.specs.Views.{ground_of}
use Rattle.aw_plain_rows.specs.TreeView.{values_of}
use Rattle.aw_plain.proofs.fill.+lift.Given as goal

abbrev pub invariant-lift_all-loop-ground : goal.invariant-lift_all-loop-ground
invariant-lift_all-loop-ground l = values_of l.trees.items ≡ map plain_lift (map ground_of (take l.ground-index l.grounds))
