use Rattle.std.proofs.Common.{get_or, Some, ◌≡◌, ◌∙◌, sym, arith}
use Rattle.std.specs.Prelude.{slice_get}
use Rattle.std.proofs.lemmas.Option.{slice_get-get_or, get_or_from_slice_get}
use Rattle.aw_node_list.specs.Picked.{picked}
use Rattle.aw_node_list.specs.declared.held.Held.{Held}
use Rattle.aw_node_list.proofs.HeldViews.{set_done}
use Rattle.aw_node_list.proofs.PickedLemmas.{length_picked, picked_at, picked_set}
use Rattle.aw_node_list.proofs.holding.mark_at.Goals as goal

pub returns-clause-items : goal.returns-clause-items
returns-clause-items c =
    let ns = c.args.order.now.items in
    let hs = c.args.nodes.now in
    let i = c.args.place in
    let n = c.at-number.result in
    let here = c.at-number.ensures in
    let x = get_or hs n c.index-nodes-number.result in
    let y : Held = record x { done = Some c.args.done } in
    let there : slice_get (picked ns hs) i ≡ Some x = picked_at ns hs i n c.requires.known here ∙ slice_get-get_or hs n c.index-nodes-number.result (c.requires.known i n here) in
    picked_set ns hs i n y c.requires.known c.requires.apart here
    ∙ set_done c.args.done (picked ns hs) i x (omega (arith, c.requires.place, length_picked ns hs c.requires.known)) (sym (get_or_from_slice_get (picked ns hs) i x x there))
