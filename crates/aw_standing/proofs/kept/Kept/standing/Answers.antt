use Rattle.std.proofs.Common.{rules, ◌≡◌, None, length, refl, subst, slice_get, get_or}
use Rattle.std.proofs.lemmas.Option.{slice_get_read}
use Rattle.std.proofs.lemmas.Result.{IfOk-weaker}
use Rattle.aw_term.specs.Rules.{Grammar}
use Rattle.aw_node_list.specs.Row.{Row}
use Rattle.aw_node_list.specs.declared.held.Held.{Held}
use Rattle.aw_choice.specs.declared.choice.Standing.{Standing}
use Rattle.aw_standing.specs.Items.{SayOf, StandsAt}
use Rattle.aw_standing.specs.KeptStates.{IsKept, IsNumbered}
use Rattle.aw_standing.proofs.ItemLemmas.{stands_said, past_known}
use Rattle.aw_standing.proofs.kept.Kept.standing.Goals as goal

pub returns-in-Some : goal.returns-in-Some
returns-in-Some g c =
    let k = g.F.Facts.map c.args.facts.now in
    let names = g.F.Facts.names c.args.facts.now in
    let kept = c.args.self.now in
    let xs = kept.records.items in
    let n = c.args.number in
    let x = c.in-Some.record.now in
    let value : x ≡ get_or xs n x = search rules in
    IfOk-weaker c.standing_in.result (SayOf names c.as_slice.result.now c.args.rule)
    (λ (s : Standing). (gr : Grammar) (row : Row) (h : Held) → IsNumbered row n h → IsKept gr row k names kept → StandsAt gr k h c.args.rule s)
    (λ s says gr row h at f.
    stands_said gr k names row.items row.numbers xs kept.work.waiting at.place n h x c.args.rule s f at.numbered at.there
    (slice_get_read xs (length xs) n x refl (f.fits.known at.place n at.numbered) value) (subst (λ ms. SayOf names ms c.args.rule s) c.as_slice.ensures.value says))
    c.standing_in.ensures

pub returns-in-None : goal.returns-in-None
returns-in-None g c gr row h at f =
    let xs = c.args.self.now.records.items in
    let n = c.args.number in
    let gone : slice_get xs n ≡ None = search rules in
    absurd (past_known xs n (f.fits.known at.place n at.numbered) gone)
