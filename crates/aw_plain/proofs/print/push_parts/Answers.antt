use Rattle.std.proofs.Common.{◌≡◌, refl, true, false, ◌++◌, ap, sym, ◌∙◌, arith}
use Rattle.std.proofs.lemmas.Result.{on_ok_weaker}
use Rattle.std.specs.declared.vec.Vec.{Vec}
use Rattle.std.specs.declared.alloc.Global.{Global}
use Rattle.aw_plain_rows.specs.declared.tree.Tree.{Tree}
use Rattle.aw_term.specs.Artifacts.{listed}
use Rattle.aw_plain_rows.specs.TreeView.{value_of}
use Rattle.aw_plain_rows.specs.Places.{places_of_all}
use Rattle.aw_plain.specs.Pieces.{opening, texts_under, pending, pieces_work}
use Rattle.aw_plain_rows.proofs.Counts.{places_made}
use Rattle.aw_plain.proofs.PrintLemmas.{pending_push, work_more, text_none, opened}
use Rattle.aw_plain.proofs.print.push_parts.Goals as goal

pub returns-then-are_none-clause-text : goal.returns-then-are_none-clause-text
returns-then-are_none-clause-text c = λ w.
    let held = c.as_slice.ensures.value ∙ ap (λ (ts : Vec Tree Global). ts.items) c.deref.ensures in
    ap (λ u. u ++ pending w c.args.pieces.now.items) (text_none w _ _ _ _ _ c.in-Con.is held (c.if-are_none.ensures.0 refl))

pub returns-in_ok-push-in-Con-clause-text : goal.returns-in_ok-push-in-Con-clause-text
returns-in_ok-push-in-Con-clause-text c =
    let first = c.as_slice.ensures.value ∙ ap (λ (ts : Vec Tree Global). ts.items) c.deref.ensures in
    let held = c.as_slice-in-Con.ensures.value ∙ ap (λ (ts : Vec Tree Global). ts.items) c.deref-in-Con.ensures in
    on_ok_weaker c.push_listed.result (λ e w.
    let old = pending w c.args.pieces.now.items in
    let start = opening w (value_of c.args.tree.now) in
    opened w _ _ _ _ _ old c.in-Con.is held (λ e. let no : false ≡ true = c.if-are_none.ensures.1 (first ∙ sym held ∙ e) in absurd cc)
    ∙ ap (λ u. start ++ u) (ap (λ u. listed (texts_under w c.in-Con.whole c.as_slice-in-Con.result.now) ++ u)
    (sym (ap (pending w) c.in_ok-push-in-Con.ensures.items ∙ pending_push w c.args.pieces.now.items _))
    ∙ sym (e w))) c.push_listed.ensures.text

pub returns-in_ok-push-in-Con-clause-work : goal.returns-in_ok-push-in-Con-clause-work
returns-in_ok-push-in-Con-clause-work c =
    let held = c.as_slice-in-Con.ensures.value ∙ ap (λ (ts : Vec Tree Global). ts.items) c.deref-in-Con.ensures in
    on_ok_weaker c.push_listed.result (λ e. omega (
      arith,
      e,
      ap pieces_work c.in_ok-push-in-Con.ensures.items,
      work_more,
      ap places_of_all held,
      places_made _ _ _ _ c.in-Con.is,
    )) c.push_listed.ensures.work
