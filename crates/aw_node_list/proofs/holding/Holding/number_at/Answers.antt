use Rattle.std.proofs.Common.{length, ap, arith}
use Rattle.aw_node_list.specs.Row.{Row}
use Rattle.aw_node_list.proofs.PickedLemmas.{length_picked}
use Rattle.aw_node_list.proofs.holding.Holding.number_at.Goals as goal

pub at-requires : goal.at-requires
at-requires c =
    omega (
      arith,
      c.requires,
      ap (λ (r : Row). length r.items) c.self.view_is,
      length_picked c.self.inside.order.items c.self.inside.nodes.items c.self.invariant.known,
    )
