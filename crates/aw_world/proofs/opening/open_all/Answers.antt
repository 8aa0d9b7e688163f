use Rattle.std.proofs.Common.{◌≡◌, ◌<◌, ◌-◌, ◌+◌, arith, length, refl, ap, ◌∙◌}
use Rattle.std.proofs.lemmas.Option.{slice_get_read}
use Rattle.aw_node_list.specs.HeldView.{all_of}
use Rattle.aw_world.specs.NodeLists.{put_among}
use Rattle.aw_world.specs.Opened.{open_nodes}
use Rattle.aw_world.proofs.OpenNodes.{opens_more}
use Rattle.aw_world.proofs.opening.open_all.Goals as goal

pub loop-at-preserved : goal.loop-at-preserved
loop-at-preserved g c =
    let f = g.W.Workspace in
    let ws = c.args.sites.now in
    let i = c.loop-at.at - 1 in
    let w = c.index-sites-at.result in
    let next : c.loop-at.at ≡ i + 1 = omega (arith, c.loop-at-test.true) in
    let low : i < length ws = omega (arith, c.loop-at-test.true, c.loop-at.invariant.within) in
    let here = slice_get_read ws (length ws) i w refl low c.index-sites-at.is in
    record {
      within = omega (arith, c.loop-at.invariant.within);
      told = λ p.
          c.in_ok-nodes.ensures p
          ∙ ap (put_among (open_nodes (all_of p (f.its_nodes w)))) (c.loop-at.invariant.told p)
          ∙ opens_more f p ws i c.loop-at.at w here next;
    }
