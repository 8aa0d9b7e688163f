use Rattle.std.proofs.Common.{◌≡◌, map, take}
use Rattle.aw_plain_rows.specs.TreeView.{value_under, values_of}
use Rattle.aw_plain_rows.proofs.put.copy_parts.Given as goal

abbrev pub invariant-loop-part : goal.invariant-loop-part
invariant-loop-part l = values_of l.copies.items ≡ map (value_under l.whole) (take l.part-index l.parts)
