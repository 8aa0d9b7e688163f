use Rattle.std.proofs.Common.{◌≡◌, ◌++◌, map, drop}
use Rattle.aw_choice.specs.ChoiceView.{item_of}
use Rattle.aw_world_waits.specs.Waiters.{waited_in}
use Rattle.aw_world_waits.proofs.items.waited_in.Given as goal

-- the nodes so far, and those of the items that are left
abbrev pub invariant-loop-item : goal.invariant-loop-item
invariant-loop-item l = l.nodes ++ waited_in (map item_of (drop l.item-index l.items)) ≡ waited_in (map item_of l.items)
