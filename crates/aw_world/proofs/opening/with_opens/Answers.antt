use Rattle.std.proofs.Common.{ap, sym, ◌∙◌, subst}
use Rattle.aw_node_list.specs.HeldView.{all_of}
use Rattle.aw_node_list.proofs.InOrderLemmas.{up_of}
use Rattle.aw_world.specs.NodeLists.{AreOrdered}
use Rattle.aw_world.specs.Opened.{open_nodes}
use Rattle.aw_world.proofs.OpenNodes.{opens_ordered}
use Rattle.aw_world.proofs.opening.with_opens.Goals as goal

pub merge-requires : goal.merge-requires
merge-requires g c =
    let f = g.W.Workspace in
    let w = c.args.site.now in
    let p = f.its_grammar w in
    let hs = f.its_nodes w in
    let held = c.as_slice.ensures.value ∙ c.in_ok-mine.ensures p ∙ ap (λ x. open_nodes (all_of p x)) c.nodes.ensures in
    subst AreOrdered (sym held) (opens_ordered p hs (up_of hs (g.met.W.Workspace.in_order w)))
