use Rattle.std.proofs.Common.{◌≡◌, ◌≤◌, drop, length}
use Rattle.aw_node_list.specs.HeldView.{all_of}
use Rattle.aw_term.specs.Rules.{Grammar}
use Rattle.aw_world.specs.Merged.{merged, nodes_of}
use Rattle.aw_world.specs.Opened.{open_nodes}
use Rattle.aw_world.proofs.opening.open_all.Given as goal

-- the open nodes of the workspaces from a place on
abbrev pub invariant-loop-at : goal.invariant-loop-at
invariant-loop-at g l = record {
  within : l.at ≤ length l.sites;
  told : (p : Grammar) → l.nodes.items ≡ open_nodes (all_of p (merged (nodes_of g.W.Workspace (drop l.at l.sites))));
}

abbrev pub decreases-loop-at : goal.decreases-loop-at
decreases-loop-at g l = l.at
