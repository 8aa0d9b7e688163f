use Rattle.std.proofs.Common.{◌≡◌, map, ap, sym, ◌∙◌, subst}
use Rattle.std.proofs.lemmas.Result.{IfOk-weaker}
use Rattle.aw_term.proofs.GrammarTests.{grammars_are_one}
use Rattle.aw_choice.specs.ChoiceView.{item_of}
use Rattle.aw_grammar.specs.GrammarOf.{grammar_of}
use Rattle.aw_node_list.specs.HeldView.{all_of}
use Rattle.aw_node_list.specs.InOrder.{IsInOrder}
use Rattle.aw_law_sites.specs.Worklists.{site_worklist}
use Rattle.aw_law_sites.specs.Worlds as V
use Rattle.aw_world.specs.Shown.{Shows}
use Rattle.aw_world_waits.specs.Blocks.{waiter_at, waiters_at}
use Rattle.aw_world_waits.proofs.Worlds.{held_there}
use Rattle.aw_world_waits.proofs.telling.waiters_of.Goals as goal

pub waiters-requires : goal.waiters-requires
waiters-requires g c = subst IsInOrder (sym c.nodes.ensures) (g.met.W.Workspace.in_order c.site.result.now)

pub returns : goal.returns
returns g c =
    let f = g.W.Workspace in
    let w = c.args.world.now in
    let p = grammar_of w.accepted.now.grammar in
    let role = c.args.role in
    IfOk-weaker c.waiters.result _ (λ made. (v : V.World) → Shows f w v → made ≡ waiters_at p v role)
    (λ made h v S.
    let k = (V.site_at v role).equations in
    let nodes : (V.site_at v role).held ≡ all_of p c.nodes.result.now.items =
    held_there f w g.met.W.Workspace.holds v role c.site.result.now (c.site.ensures.shows v S) (grammars_are_one _ p c.site.ensures.grammar) ∙ ap (all_of p) (sym c.nodes.ensures) in
    let items : map item_of c.as_slice.result.now ≡ site_worklist p k (all_of p c.nodes.result.now.items) =
    ap (map item_of) c.as_slice.ensures ∙ c.in_ok-items.ensures v S ∙ ap (site_worklist p k) nodes in
    h p k items ∙ ap (map (waiter_at p k)) (sym nodes))
    c.waiters.ensures
