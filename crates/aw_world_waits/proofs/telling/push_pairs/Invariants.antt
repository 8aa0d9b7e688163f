use Rattle.std.proofs.Common.{◌≡◌, ◌++◌, map, drop}
use Rattle.aw_choice.specs.ChoiceView.{choice_of}
use Rattle.aw_world_waits.specs.Blocks.{pairs_with}
use Rattle.aw_world_waits.proofs.telling.push_pairs.Given as goal

-- the pairs so far, and those of the nodes that are left
abbrev pub invariant-loop-on : goal.invariant-loop-on
invariant-loop-on g l =
    l.pairs ++ pairs_with (map choice_of l.world.taken.items) l.waiter.node (drop l.on-index l.waiter.on) ≡ l.fn.pairs ++ pairs_with (map choice_of l.world.taken.items) l.waiter.node l.waiter.on
