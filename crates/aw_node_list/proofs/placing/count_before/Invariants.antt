use Rattle.std.proofs.Common.{◌≡◌, ◌≤◌, ◌-◌, length, true, false}
use Rattle.std.specs.List.{AllWithin}
use Rattle.aw_term.specs.Names.{node_lt}
use Rattle.aw_node_list.specs.declared.held.Held.{Held}
use Rattle.aw_node_list.proofs.placing.count_before.Given as goal

abbrev pub invariant-loop-low : goal.invariant-loop-low
invariant-loop-low l = record {
  within : l.low ≤ l.high;
  most : l.high ≤ length l.held.items;
  front : AllWithin (λ (h : Held). node_lt h.node l.node ≡ true) l.held.items 0 l.low;
  rest : AllWithin (λ (h : Held). node_lt h.node l.node ≡ false) l.held.items l.high (length l.held.items);
}

abbrev pub decreases-loop-low : goal.decreases-loop-low
decreases-loop-low l = l.high - l.low
