use Rattle.std.proofs.Common.{◌++◌, length, map, Some, ap, ◌∙◌}
use Rattle.std.proofs.lemmas.List.{length-replicate}
use Rattle.aw_world.specs.Merged.{merged, left_of, held_at}
use Rattle.aw_world.proofs.Walking.{left_start}
use Rattle.aw_world.proofs.merging.in_order.Goals as goal

pub loop-spot-init : goal.loop-spot-init
loop-spot-init g c =
    let f = g.W.Workspace in
    let ws = c.args.sites.now in
    let e = c.in_ok-places.ensures in
    record {
      places = ap length e ∙ length-replicate (length ws) 0;
      told = ap (λ xs. map (held_at f ws) xs ++ map Some (merged (left_of f ws c.in_ok-places.places.items))) c.new-spots.ensures.items
          ∙ ap (λ ps. map Some (merged (left_of f ws ps))) e ∙ ap (λ hss. map Some (merged hss)) (left_start f ws (length ws));
    }
