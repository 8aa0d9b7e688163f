use Rattle.std.proofs.Common.{rules, ◌≡◌, ◌∙◌, ◌++◌, None, length, map, ap, refl, sym, slice_get, get_or}
use Rattle.std.proofs.lemmas.Option.{slice_get_read}
use Rattle.std.proofs.lemmas.Result.{on_ok_weaker}
use Rattle.aw_choice.specs.ChoiceView.{item_of}
use Rattle.aw_standing.specs.Items.{kept_item}
use Rattle.aw_standing.proofs.ItemLemmas.{items_at, past_known}
use Rattle.aw_standing.proofs.kept.Kept.push_items.Goals as goal

pub returns-in-Some : goal.returns-in-Some
returns-in-Some g c =
    let names = g.F.Facts.names c.args.facts.now in
    let xs = c.args.self.now.records.items in
    let n = c.args.number in
    let x = c.in-Some.record.now in
    let value : x ≡ get_or xs n x = search rules in
    on_ok_weaker c.push_marks.result (λ pushed gr row h at same kept.
    pushed
    ∙ ap (λ ms. map item_of c.args.items.now.items ++ map (kept_item names c.args.node.now) ms) c.as_slice.ensures.value
    ∙ ap (λ z. map item_of c.args.items.now.items ++ map (kept_item names z) x.marks.items) (sym same)
    ∙ ap (λ is. map item_of c.args.items.now.items ++ is)
    (items_at gr (g.F.Facts.map c.args.facts.now) names row.items row.numbers xs c.args.self.now.work.waiting at.place n h x kept at.numbered at.there
    (slice_get_read xs (length xs) n x refl (kept.fits.known at.place n at.numbered) value))) c.push_marks.ensures

pub returns-in-None : goal.returns-in-None
returns-in-None g c gr row h at same kept =
    let xs = c.args.self.now.records.items in
    let n = c.args.number in
    let gone : slice_get xs n ≡ None = search rules in
    absurd (past_known xs n (kept.fits.known at.place n at.numbered) gone)
