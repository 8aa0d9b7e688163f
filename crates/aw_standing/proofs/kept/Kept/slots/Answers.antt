use Rattle.std.proofs.Common.{rules, ◌≡◌, None, length, refl, sym, subst, slice_get, get_or}
use Rattle.std.proofs.lemmas.Option.{slice_get_read}
use Rattle.aw_store.specs.NamedRefs.{AreNamed}
use Rattle.aw_standing.proofs.ItemLemmas.{past_known}
use Rattle.aw_standing.proofs.kept.Kept.slots.Goals as goal

pub returns-in-Some : goal.returns-in-Some
returns-in-Some c gr row h k names at f =
    let xs = c.args.self.now.records.items in
    let n = c.args.number in
    let x = c.in-Some.record.now in
    let value : x ≡ get_or xs n x = search rules in
    let of_node = f.of_node at.place n h x at.numbered at.there (slice_get_read xs (length xs) n x refl (f.fits.known at.place n at.numbered) value) in
    subst (λ slots. AreNamed names slots h.inherited) (sym c.as_slice.ensures.value) of_node.slots

pub returns-in-None : goal.returns-in-None
returns-in-None c gr row h k names at f =
    let xs = c.args.self.now.records.items in
    let n = c.args.number in
    let gone : slice_get xs n ≡ None = search rules in
    absurd (past_known xs n (f.fits.known at.place n at.numbered) gone)
