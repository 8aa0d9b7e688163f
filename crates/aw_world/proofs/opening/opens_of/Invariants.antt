use Rattle.std.proofs.Common.{◌≡◌, ◌++◌, drop}
use Rattle.aw_node_list.specs.HeldView.{all_of}
use Rattle.aw_term.specs.Rules.{Grammar}
use Rattle.aw_world.specs.Opened.{open_nodes}
use Rattle.aw_world.proofs.opening.opens_of.Given as goal

-- the open nodes so far, and those that are left
abbrev pub invariant-loop-place : goal.invariant-loop-place
invariant-loop-place l = (p : Grammar) → l.nodes.items ++ open_nodes (all_of p (drop l.place l.held.items)) ≡ open_nodes (all_of p l.held.items)
