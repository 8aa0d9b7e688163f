use Rattle.std.proofs.Common.{◌+◌, ◌++◌, ◌∷◌, [], ap, ◌∙◌}
use Rattle.aw_term.specs.Names.{result}
use Rattle.aw_apply.proofs.ChildLemmas.{results_more}
use Rattle.aw_apply.proofs.children.push_results.Goals as goal

pub loop-j-preserved : goal.loop-j-preserved
loop-j-preserved c =
    let old = c.loop-j.refs.items in
    let n = c.args.node.now in
    c.in_ok-push.ensures.items
    ∙ ap (λ m. old ++ result m (c.from.result + 1) ∷ []) c.in_ok-copy_node.ensures
    ∙ ap (λ s. old ++ result n (s + 1) ∷ []) c.from.ensures
    ∙ results_more n old c.args.refs.now.items c.loop-j.j c.loop-j.invariant
