use Rattle.std.proofs.Common.{Some, refl, ap, sym, ◌∙◌}
use Rattle.std.proofs.lemmas.Option.{slice_get_read}
use Rattle.aw_term.proofs.RefTests.{ref_eq-true}
use Rattle.aw_store.proofs.names.slot_in.Goals as goal

pub returns-then-is_ref : goal.returns-then-is_ref
returns-then-is_ref c =
    slice_get_read c.args.names.now _ c.loop-i.i c.index-names-i.result refl c.loop-i-test.true c.index-names-i.is
    ∙ ap Some (sym (ref_eq-true c.args.r.now c.index-names-i.result (sym c.is_ref.ensures ∙ c.if-is_ref.true)))
