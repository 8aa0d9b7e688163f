use Rattle.std.proofs.Common.{◌≡◌, ◌++◌, map, take}
use Rattle.aw_choice.specs.ChoiceView.{item_of}
use Rattle.aw_standing.specs.Items.{kept_item}
use Rattle.aw_standing.proofs.listing.push_marks.Given as goal

abbrev pub invariant-loop-mark : goal.invariant-loop-mark
invariant-loop-mark g l = map item_of l.items.items ≡ map item_of l.fn.items.items ++ map (kept_item (g.F.Facts.names l.facts) l.node) (take l.mark-index l.marks)
