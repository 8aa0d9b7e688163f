use Rattle.std.proofs.Common.{length, refl, ◌∙◌}
use Rattle.std.proofs.lemmas.Option.{slice_get_read}
use Rattle.aw_node_list.proofs.PickedLemmas.{picked_at}
use Rattle.aw_node_list.proofs.holding.node_at.Goals as goal

pub returns : goal.returns
returns c =
    let ns = c.args.order.now.items in
    let hs = c.args.nodes.now in
    let i = c.args.place in
    let n = c.at-which.result in
    picked_at ns hs i n c.requires.known c.at-which.ensures
    ∙ slice_get_read hs (length hs) n c.index-nodes-which.result refl (c.requires.known i n c.at-which.ensures) c.index-nodes-which.is
