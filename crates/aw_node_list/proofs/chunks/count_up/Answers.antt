use Rattle.std.proofs.Common.{◌≡◌, ◌<◌, ◌+◌, suc, length, get_or, set, ap, ◌∙◌, arith}
use Rattle.std.proofs.lemmas.List.{get_or_default}
use Rattle.std.proofs.lemmas.List.Edits.{map_over_more}
use Rattle.aw_node_list.proofs.chunks.count_up.Goals as goal

pub loop-at-preserved : goal.loop-at-preserved
loop-at-preserved c =
    let xs = c.args.starts.now in
    let ys = c.loop-at.starts in
    let i = c.loop-at.at in
    let x = get_or ys i 0 in
    let here : i < length ys = omega arith in
    let e : x + 1 ≡ suc x = omega arith in
    ap (set ys i) e ∙ map_over_more suc xs ys i x (omega arith) c.loop-at.invariant (get_or_default ys i 0 x here)
