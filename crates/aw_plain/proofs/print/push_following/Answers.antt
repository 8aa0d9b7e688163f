use Rattle.std.proofs.Common.{◌≡◌, ◌+◌, ◌-◌, ◌<◌, ◌++◌, length, drop, codes, ap, sym, ◌∙◌, arith, append_assoc}
use Rattle.std.proofs.lemmas.List.{at_drop_more}
use Rattle.aw_term.specs.Artifacts.{value_text}
use Rattle.aw_plain_rows.specs.Places.{places, places_of_all}
use Rattle.aw_plain.specs.Pieces.{text_of, texts_under, following, pending, pieces_work}
use Rattle.aw_plain.proofs.PrintLemmas.{pending_push, work_more, following_more, places_copied}
use Rattle.aw_plain.proofs.print.push_following.Goals as goal

pub loop-k-preserved : goal.loop-k-preserved
loop-k-preserved c =
    let ts = c.args.trees.now in
    let k = c.loop-k.k in
    let m = c.args.whole in
    let t = c.index-trees-k.result in
    let u = c.in_ok-copy_part.field-0 in
    let ek : k ≡ k - 1 + 1 = omega arith in
    let lt : k - 1 < length ts = omega arith in
    record {
      within = omega arith;
      text = λ w.
          let old = pending w c.args.pieces.now.items in
          let more = following (texts_under w m (drop k ts)) in
          ap (pending w) c.in_ok-push.ensures.items ∙ pending_push w c.loop-k.pieces.items _
          ∙ ap (λ rest. (codes ", " ++ text_of w u) ++ rest) (c.loop-k.invariant.text w)
          ∙ sym (append_assoc (codes ", " ++ text_of w u) more old)
          ∙ ap (λ rest. rest ++ old) (append_assoc (codes ", ") (text_of w u) more ∙ ap (λ v. codes ", " ++ (value_text w v ++ more))
          c.in_ok-copy_part.ensures ∙ sym (following_more w m ts (k - 1) k t ek lt c.index-trees-k.is));
      work = omega (
        arith,
        ap pieces_work c.in_ok-push.ensures.items,
        work_more,
        places_copied m t u c.in_ok-copy_part.ensures,
        c.loop-k.invariant.work,
        at_drop_more places_of_all ts (k - 1) t lt,
        ap places c.index-trees-k.is,
        ap (λ n. places_of_all (drop n ts)) ek,
      );
    }
