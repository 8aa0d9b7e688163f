use Rattle.std.proofs.Common.{◌≡◌, None, ap, length, subst}
use Rattle.std.specs.Prelude.{IfOk}
use Rattle.std.proofs.lemmas.Result.{IfOk-weaker}
use Rattle.aw_law_sites.specs.Worlds as V
use Rattle.aw_world.specs.Opened.{AreAllInOrder}
use Rattle.aw_world.specs.Reactions.{HasRows}
use Rattle.aw_world.specs.Shown.{Shows, first_open}
use Rattle.aw_world.proofs.QuietRows.{quiet_length}
use Rattle.aw_world.proofs.RowsAt.{order_length}
use Rattle.aw_world.proofs.WorldFacts.{reached_homes}
use Rattle.aw_world.proofs.world.World.in_order.Goals as goal

pub returns-clause-count : goal.returns-clause-count
returns-clause-count g c =
    let f = g.W.Workspace in
    let w = c.args.self.now in
    let homes = reached_homes f w.accepted.now w.loads w.sites.items w.messages w.marks.delivered.items w.taken.items w.reached g.met.W.Workspace.holds w.placed in
    let order = subst (λ ws. IfOk c.in_order.result (λ spots. AreAllInOrder f ws spots.items)) c.as_slice.ensures.value c.in_order.ensures in
    IfOk-weaker c.in_order.result _ (λ spots. (v : V.World) → Shows f w v → length spots.items ≡ length (V.gather v.sites))
    (λ spots h v S. order_length f g.met.W.Workspace.holds w.accepted.now.grammar w.sites.items w.placed homes v (ap (λ (u : V.World). u.sites) S) spots.items h) order

pub returns-clause-quiet : goal.returns-clause-quiet
returns-clause-quiet g c =
    let f = g.W.Workspace in
    let w = c.args.self.now in
    let homes = reached_homes f w.accepted.now w.loads w.sites.items w.messages w.marks.delivered.items w.taken.items w.reached g.met.W.Workspace.holds w.placed in
    let order = subst (λ ws. IfOk c.in_order.result (λ spots. AreAllInOrder f ws spots.items)) c.as_slice.ensures.value c.in_order.ensures in
    IfOk-weaker c.in_order.result _ (λ spots. first_open w ≡ None → HasRows w.accepted.now.grammar w.taken.items (length spots.items))
    (λ spots h quiet. quiet_length f w quiet (length spots.items) (λ v S. order_length f g.met.W.Workspace.holds w.accepted.now.grammar w.sites.items
    w.placed homes v (ap (λ (u : V.World). u.sites) S) spots.items h)) order
