use Rattle.std.proofs.Common.{length}
use Rattle.aw_apply.proofs.ChildLemmas.{node_at, within_nodes, refs_more}
use Rattle.aw_apply.proofs.children.push_children_results.Goals as goal

pub bounds-nodes-i : goal.bounds-nodes-i
bounds-nodes-i c = within_nodes c.args.node.now c.args.rule (length c.args.children.now) c.loop-i.i c.args.nodes.now c.requires c.loop-i-test.true

pub loop-i-preserved : goal.loop-i-preserved
loop-i-preserved c =
    let at = node_at c.args.node.now c.args.rule (length c.args.children.now) c.loop-i.i c.index-nodes-i.result c.args.nodes.now c.requires c.loop-i-test.true c.index-nodes-i.is in
    refs_more c.args.node.now c.args.rule c.args.g.now.sorts c.args.children.now c.loop-i.i c.index-children-i.result c.index-nodes-i.result
    c.loop-i.refs.items c.push_child_results.new.refs.items _ c.loop-i-test.true c.index-children-i.is at
    c.in_ok-push_child_results.ensures c.loop-i.invariant
