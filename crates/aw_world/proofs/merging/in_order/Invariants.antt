use Rattle.std.proofs.Common.{◌≡◌, ◌++◌, length, map, Some}
use Rattle.aw_world.specs.Merged.{merged, nodes_of, left_of, held_at}
use Rattle.aw_world.proofs.merging.in_order.Given as goal

-- the places so far, and behind them what is left, are those of all nodes
abbrev pub invariant-loop-spot : goal.invariant-loop-spot
invariant-loop-spot g l = record {
  places : length l.places.items ≡ length l.sites;
  told : map (held_at g.W.Workspace l.sites) l.spots.items ++ map Some (merged (left_of g.W.Workspace l.sites l.places.items)) ≡ map Some (merged (nodes_of g.W.Workspace l.sites));
}

abbrev pub decreases-loop-spot : goal.decreases-loop-spot
decreases-loop-spot g l = length (merged (left_of g.W.Workspace l.sites l.places.items))
