use Rattle.std.proofs.Common.{◌++◌, ◌∷◌, [], ap, ◌∙◌}
use Rattle.aw_apply.proofs.ChildLemmas.{nodes_more}
use Rattle.aw_apply.proofs.children.child_nodes.Goals as goal

pub loop-i-preserved : goal.loop-i-preserved
loop-i-preserved c =
    let old = c.loop-i.nodes.items in
    c.in_ok-push.ensures.items
    ∙ ap (λ x. old ++ x ∷ []) c.in_ok-child_node.ensures
    ∙ nodes_more c.args.node.now c.args.rule c.loop-i.i old c.loop-i.invariant
