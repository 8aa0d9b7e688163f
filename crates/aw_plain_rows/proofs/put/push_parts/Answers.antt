use Rattle.std.proofs.Common.{◌≡◌, ◌+◌, ◌-◌, ◌<◌, ◌∷◌, ◌++◌, [], length, drop, ap, ◌∙◌, arith}
use Rattle.std.proofs.lemmas.List.{at_drop_more}
use Rattle.aw_term.specs.Trees.{bind}
use Rattle.aw_plain_rows.specs.TreeView.{value_of}
use Rattle.aw_plain_rows.specs.Jobs.{finish, work}
use Rattle.aw_plain_rows.specs.Places.{places, places_of_all}
use Rattle.aw_plain_rows.proofs.JobLemmas.{finish_push, work_push, front_part}
use Rattle.aw_plain_rows.proofs.put.push_parts.Goals as goal

pub loop-k-preserved : goal.loop-k-preserved
loop-k-preserved c =
    let ps = c.args.parts.now in
    let k = c.loop-k.k in
    let p = c.index-parts-k.result in
    let ek : k ≡ k - 1 + 1 = omega arith in
    let lt : k - 1 < length ps = omega arith in
    record {
      within = omega arith;
      finish = λ f ts. ap (λ js. finish f js ts) c.in_ok-push.ensures.items ∙ finish_push f c.loop-k.todo.items _ ts ∙ c.loop-k.invariant.finish f (ts ++ bind f (value_of p) ∷ [])
          ∙ ap (finish f c.args.todo.now.items) (front_part (λ t. bind f (value_of t)) ps ts (k - 1) k p ek lt c.index-parts-k.is);
      work = omega (arith, ap work c.in_ok-push.ensures.items, work_push, at_drop_more places_of_all ps (k - 1) p lt, ap places c.index-parts-k.is, ap (λ n. places_of_all (drop n ps)) ek);
    }
