use Rattle.std.proofs.Common.{◌∙◌, sym, arith}
use Rattle.aw_node_list.proofs.InOrderLemmas.{front_to, rest_from}
use Rattle.aw_node_list.proofs.placing.bounds_below.Goals as goal

pub returns-then-is_before-clause-front : goal.returns-then-is_before-clause-front
returns-then-is_before-clause-front c =
    front_to c.args.held.now.items c.args.node.now c.saturating_sub-at.result c.at.result.now c.requires.ordered c.at.ensures (sym c.is_before.ensures ∙ c.if-is_before.true)

pub loop-high-preserved : goal.loop-high-preserved
loop-high-preserved c = record {
  some = omega (arith, c.loop-high.invariant.some, c.saturating_mul-step.ensures);
  most = omega (arith, c.loop-high.invariant.most, c.saturating_sub-at.ensures);
  rest = rest_from c.args.held.now.items c.args.node.now c.saturating_sub-at.result c.at.result.now c.requires.ordered c.at.ensures (sym c.is_before.ensures ∙ c.if-is_before.false);
}
