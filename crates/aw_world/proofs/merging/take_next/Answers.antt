use Rattle.std.proofs.Common.{refl}
use Rattle.aw_node_list.proofs.InOrderLemmas.{up_of}
use Rattle.aw_world.proofs.Walking.{none_next, passes}
use Rattle.aw_world.proofs.RowsAt.{there}
use Rattle.aw_world.proofs.merging.take_next.Goals as goal

pub returns-in-Some-clause-some : goal.returns-in-Some-clause-some
returns-in-Some-clause-some g c =
    let f = g.W.Workspace in
    passes f (λ w. up_of (f.its_nodes w) (g.met.W.Workspace.in_order w)) c.args.sites.now c.args.places.now c.pass.new.places c.first_site-site.result
    c.pass.result c.requires c.first_site-site.ensures
    (there _ c.in-Some.field-0.now c.in-Some.ensures.some) c.pass.ensures.spot c.pass.ensures.places

pub returns-in-None-clause-none : goal.returns-in-None-clause-none
returns-in-None-clause-none g c = λ e.
    none_next g.W.Workspace c.args.sites.now c.args.places.now c.first_site-site.result c.requires c.first_site-site.ensures (c.in-None.ensures.none refl)
