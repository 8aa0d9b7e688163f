use Rattle.std.proofs.Common.{◌≡◌, ◌∙◌, sym, subst, false, slice_get, None}
use Rattle.std.proofs.lemmas.Option.{slice_get_within, same_Some}
use Rattle.aw_term.specs.Names.{node_eq}
use Rattle.aw_node_list.specs.declared.held.Held.{Held}
use Rattle.aw_node_list.proofs.InOrderLemmas.{up_of, place_here, place_gone}
use Rattle.aw_node_list.proofs.placing.find_in_order.Goals as goal

pub returns-in-Some-clause-place : goal.returns-in-Some-clause-place
returns-in-Some-clause-place c =
    sym (place_here c.args.held.now.items c.args.node.now c.count_before-at.result c.in-Some.h.now c.count_before-at.ensures.front (sym c.in-Some.ensures) (sym c.is_node.ensures ∙ c.if-is_node.true))

pub returns-in-Some-clause-within : goal.returns-in-Some-clause-within
returns-in-Some-clause-within c = slice_get_within c.args.held.now.items c.count_before-at.result c.in-Some.h.now (sym c.in-Some.ensures)

pub returns-in_default-clause-place : goal.returns-in_default-clause-place
returns-in_default-clause-place c =
    let hs = c.args.held.now.items in
    let n = c.args.node.now in
    let differ = sym c.is_node.ensures ∙ c.if-is_node.false in
    sym (place_gone hs n c.count_before-at.result (up_of hs c.requires) c.count_before-at.ensures.front c.count_before-at.ensures.rest
    (λ h there. subst (λ (x : Held). node_eq n x.node ≡ false) (same_Some _ _ (c.in-Some.ensures ∙ there)) differ))

pub returns-in_default-2-clause-place : goal.returns-in_default-2-clause-place
returns-in_default-2-clause-place c =
    let hs = c.args.held.now.items in
    let n = c.args.node.now in
    let at = c.count_before-at.result in
    let past : None ≡ slice_get hs at = rw c.in_default.is at c.get.ensures in
    sym (place_gone hs n at (up_of hs c.requires) c.count_before-at.ensures.front c.count_before-at.ensures.rest (λ h there. absurd cc))
