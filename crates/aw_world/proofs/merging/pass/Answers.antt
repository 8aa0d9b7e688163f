use Rattle.std.proofs.Common.{arith}
use Rattle.std.proofs.lemmas.Option.{slice_get_within}
use Rattle.aw_world.proofs.Walking.{stands}
use Rattle.aw_world.proofs.merging.pass.Goals as goal

pub bounds-places-site : goal.bounds-places-site
bounds-places-site g c =
    let s = stands g.W.Workspace c.args.sites.now c.args.places.now c.args.site c.requires in
    let h = slice_get_within c.args.places.now c.args.site s.place s.place_is in
    omega (arith, h)

pub bounds-sites-site : goal.bounds-sites-site
bounds-sites-site g c =
    let s = stands g.W.Workspace c.args.sites.now c.args.places.now c.args.site c.requires in
    let h = slice_get_within c.args.sites.now c.args.site s.workspace s.site_is in
    omega (arith, h)
