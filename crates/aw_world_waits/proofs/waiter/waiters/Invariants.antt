use Rattle.std.proofs.Common.{◌≡◌, ◌++◌, map, drop}
use Rattle.aw_choice.specs.ChoiceView.{item_of}
use Rattle.aw_node_list.specs.HeldView.{all_of}
use Rattle.aw_law_sites.specs.Worklists.{site_worklist}
use Rattle.aw_store.specs.Equations.{Map}
use Rattle.aw_term.specs.Rules.{Grammar}
use Rattle.aw_world_waits.specs.Blocks.{waiter_at}
use Rattle.aw_world_waits.proofs.waiter.waiters.Given as goal

-- the nodes so far and those that are left, and the items of those that are left
abbrev pub invariant-loop-place : goal.invariant-loop-place
invariant-loop-place l =
    (g : Grammar) (k : Map) → map item_of l.items ≡ site_worklist g k (all_of g l.nodes.items)
    → (l.made ++ map (waiter_at g k) (all_of g (drop l.place l.nodes.items)) ≡ map (waiter_at g k) (all_of g l.nodes.items))
    × (map item_of l.rest ≡ site_worklist g k (all_of g (drop l.place l.nodes.items)))
