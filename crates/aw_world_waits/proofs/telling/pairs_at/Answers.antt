use Rattle.std.proofs.lemmas.Option.{slice_get-get_or}
use Rattle.aw_world_waits.proofs.Worlds.{all_passed, site_within, place_within, pairs_more}
use Rattle.aw_world_waits.proofs.telling.pairs_at.Goals as goal

pub at-row-requires : goal.at-row-requires
at-row-requires g c =
    let i = c.loop-spot.spot-index in
    let is = slice_get-get_or c.args.spots.now i (record { site = 0; place = 0 }) c.loop-spot-test.true in
    site_within g.W.Workspace c.args.world.now g.met.W.Workspace.holds c.args.spots.now c.requires.spots c.args.all.now c.requires.all i _ is

pub at-requires : goal.at-requires
at-requires g c =
    let i = c.loop-spot.spot-index in
    let is = slice_get-get_or c.args.spots.now i (record { site = 0; place = 0 }) c.loop-spot-test.true in
    place_within g.W.Workspace c.args.world.now g.met.W.Workspace.holds c.args.spots.now c.requires.spots c.args.all.now c.requires.all i _ is c.at-row.result.now c.at-row.ensures

pub loop-spot-preserved : goal.loop-spot-preserved
loop-spot-preserved g c = λ v S.
    let i = c.loop-spot.spot-index in
    let is = slice_get-get_or c.args.spots.now i (record { site = 0; place = 0 }) c.loop-spot-test.true in
    pairs_more g.W.Workspace c.args.world.now g.met.W.Workspace.holds c.args.spots.now c.requires.spots c.args.all.now c.requires.all i _ is
    c.at-row.result.now c.at.result.now c.at-row.ensures c.at.ensures
    c.loop-spot.pairs c.push_pairs.new.pairs c.in_ok-push_pairs.ensures v S (c.loop-spot.invariant v S)

pub returns : goal.returns
returns g c = λ v S. all_passed g.W.Workspace c.args.world.now g.met.W.Workspace.holds c.args.spots.now c.requires.spots c.loop-spot.spot-index
    c.loop-spot-test.false c.loop-spot.pairs v S (c.loop-spot.invariant v S)
