use Rattle.std.proofs.Common.{◌≡◌, ◌≤◌, ◌-◌, length, true}
use Rattle.std.specs.List.{AllWithin}
use Rattle.aw_term.specs.Names.{node_lt}
use Rattle.aw_node_list.specs.declared.held.Held.{Held}
use Rattle.aw_node_list.proofs.placing.bounds_above.Given as goal

abbrev pub invariant-loop-low : goal.invariant-loop-low
invariant-loop-low l = record {
  most : l.low ≤ length l.held.items;
  front : AllWithin (λ (h : Held). node_lt h.node l.node ≡ true) l.held.items 0 l.low;
}

abbrev pub decreases-loop-low : goal.decreases-loop-low
decreases-loop-low l = length l.held.items - l.low
