use Rattle.std.proofs.Common.{◌∙◌, sym, arith}
use Rattle.aw_node_list.proofs.InOrderLemmas.{front_to, rest_from}
use Rattle.aw_node_list.proofs.placing.bounds_above.Goals as goal

pub returns-then-not-is_before-clause-rest : goal.returns-then-not-is_before-clause-rest
returns-then-not-is_before-clause-rest c =
    rest_from c.args.held.now.items c.args.node.now c.min-at.result c.at.result.now c.requires.ordered c.at.ensures (sym c.is_before.ensures ∙ c.if-not-is_before.true)

pub loop-low-preserved : goal.loop-low-preserved
loop-low-preserved c = record {
  most = omega (arith, c.loop-low.invariant.most, c.min-at.ensures);
  front = front_to c.args.held.now.items c.args.node.now c.min-at.result c.at.result.now c.requires.ordered c.at.ensures (sym c.is_before.ensures ∙ c.if-not-is_before.false);
}
