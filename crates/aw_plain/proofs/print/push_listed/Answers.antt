use Rattle.std.proofs.Common.{◌++◌, drop, ap, sym, ◌∙◌, arith, append_assoc}
use Rattle.std.proofs.lemmas.List.{at_drop_more}
use Rattle.aw_term.specs.Artifacts.{value_text}
use Rattle.aw_plain_rows.specs.Places.{places, places_of_all}
use Rattle.aw_plain.specs.Pieces.{text_of, texts_under, following, pending, pieces_work}
use Rattle.aw_base.proofs.TextLemmas.{all_behind}
use Rattle.aw_plain.proofs.PrintLemmas.{pending_push, work_more, listed_split, places_copied}
use Rattle.aw_plain.proofs.print.push_listed.Goals as goal

pub returns-in_ok-push-in-len1-up-clause-text : goal.returns-in_ok-push-in-len1-up-clause-text
returns-in_ok-push-in-len1-up-clause-text c = λ w.
    let ts = c.args.trees.now in
    let m = c.args.whole in
    let t = c.first-item.result in
    let u = c.in_ok-copy_part-in-len1-up.field-0 in
    let old = pending w c.args.pieces.now.items in
    let more = following (texts_under w m (drop 1 ts)) in
    ap (pending w) c.in_ok-push-in-len1-up.ensures.items ∙ pending_push w c.push_following.new.pieces.items _
    ∙ ap (λ rest. text_of w u ++ rest) (c.in_ok-push_following-in-len1-up.ensures.text w ∙ ap (λ us. following (texts_under w m us) ++ old) (all_behind ts))
    ∙ sym (append_assoc (text_of w u) more old)
    ∙ ap (λ rest. rest ++ old) (ap (λ v. value_text w v ++ more) c.in_ok-copy_part-in-len1-up.ensures ∙ sym (listed_split w m ts t c.in-len1-up.len_at_least c.first-item.is))

pub returns-in_ok-push-in-len1-up-clause-work : goal.returns-in_ok-push-in-len1-up-clause-work
returns-in_ok-push-in-len1-up-clause-work c =
    let ts = c.args.trees.now in
    let m = c.args.whole in
    let t = c.first-item.result in
    let u = c.in_ok-copy_part-in-len1-up.field-0 in
    omega (
      arith,
      ap pieces_work c.in_ok-push-in-len1-up.ensures.items,
      work_more,
      places_copied m t u c.in_ok-copy_part-in-len1-up.ensures,
      c.in_ok-push_following-in-len1-up.ensures.work,
      at_drop_more places_of_all ts 0 t (omega (arith, c.in-len1-up.len_at_least)),
      ap places c.first-item.is,
      ap places_of_all (all_behind ts),
    )
