use Rattle.std.proofs.Common.{◌∙◌, sym}
use Rattle.aw_node_list.proofs.InOrderLemmas.{front_to, rest_from}
use Rattle.aw_node_list.proofs.placing.bounds_of.Goals as goal

pub bounds_above-requires-clause-front : goal.bounds_above-requires-clause-front
bounds_above-requires-clause-front c =
    front_to c.args.held.now.items c.args.node.now c.near-near.result c.at.result.now c.requires c.at.ensures (sym c.is_before.ensures ∙ c.if-is_before.true)

pub bounds_below-requires-else-is_before-clause-rest : goal.bounds_below-requires-else-is_before-clause-rest
bounds_below-requires-else-is_before-clause-rest c =
    rest_from c.args.held.now.items c.args.node.now c.near-near.result c.at.result.now c.requires c.at.ensures (sym c.is_before.ensures ∙ c.if-is_before.false)
