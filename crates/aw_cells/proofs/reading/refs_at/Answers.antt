use Rattle.std.proofs.Common.{List, ◌++◌, ◌∷◌, [], take, get_or, ap, sym, ◌∙◌}
use Rattle.std.proofs.lemmas.List.{take_more}
use Rattle.std.proofs.lemmas.Option.{slice_get-get_or}
use Rattle.aw_term.specs.Names.{Ref}
use Rattle.aw_cells.specs.StoredBodies.{refs_of}
use Rattle.aw_cells.proofs.BodyLemmas.{all_below-at, refs_of-push}
use Rattle.aw_cells.proofs.reading.refs_at.Goals as goal

pub ref_at-requires : goal.ref_at-requires
ref_at-requires c =
    let slots = c.args.slots.now in
    all_below-at _ slots c.loop-slot.slot-index _ c.requires (slice_get-get_or slots c.loop-slot.slot-index 0 c.loop-slot-test.true)

pub loop-slot-preserved : goal.loop-slot-preserved
loop-slot-preserved c =
    let ns = c.args.names.now in
    let slots = c.args.slots.now in
    let i' = c.loop-slot.slot-index in
    let r' = c.in_ok-ref_at.field-0 in
    ◌∙◌ {A = List Ref} c.in_ok-push.ensures.items
    (ap (λ x. x ++ r' ∷ []) c.loop-slot.invariant ∙ sym (refs_of-push ns (take i' slots) (get_or slots i' 0) r' c.in_ok-ref_at.ensures)
    ∙ ap (refs_of ns) (sym (take_more slots i' 0 c.loop-slot-test.true)))
