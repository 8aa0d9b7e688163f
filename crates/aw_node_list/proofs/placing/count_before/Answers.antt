use Rattle.std.proofs.Common.{◌+◌, ◌-◌, ◌/◌, ◌∙◌, sym, arith}
use Rattle.aw_node_list.proofs.InOrderLemmas.{front_to, rest_from}
use Rattle.aw_node_list.proofs.placing.count_before.Goals as goal

pub loop-low-preserved-then-is_before : goal.loop-low-preserved-then-is_before
loop-low-preserved-then-is_before c =
    let middle = c.loop-low.low + (c.loop-low.high - c.loop-low.low) / 2 in
    record {
      within = omega arith;
      most = c.loop-low.invariant.most;
      front = front_to c.args.held.now.items c.args.node.now middle c.at.result.now c.requires c.at.ensures (sym c.is_before.ensures ∙ c.if-is_before.true);
      rest = c.loop-low.invariant.rest;
    }

pub loop-low-preserved : goal.loop-low-preserved
loop-low-preserved c =
    let middle = c.loop-low.low + (c.loop-low.high - c.loop-low.low) / 2 in
    record {
      within = omega arith;
      most = omega (arith, c.loop-low.invariant.most);
      front = c.loop-low.invariant.front;
      rest = rest_from c.args.held.now.items c.args.node.now middle c.at.result.now c.requires c.at.ensures (sym c.is_before.ensures ∙ c.if-is_before.false);
    }
