use Rattle.std.proofs.Common.{◌≡◌, ◌≤◌, ◌<◌, length, false}
use Rattle.std.specs.List.{AllWithin}
use Rattle.aw_term.specs.Names.{node_lt}
use Rattle.aw_node_list.specs.declared.held.Held.{Held}
use Rattle.aw_node_list.proofs.placing.bounds_below.Given as goal

abbrev pub invariant-loop-high : goal.invariant-loop-high
invariant-loop-high l = record {
  some : 0 < l.step;
  most : l.high ≤ length l.held.items;
  rest : AllWithin (λ (h : Held). node_lt h.node l.node ≡ false) l.held.items l.high (length l.held.items);
}

abbrev pub decreases-loop-high : goal.decreases-loop-high
decreases-loop-high l = l.high
