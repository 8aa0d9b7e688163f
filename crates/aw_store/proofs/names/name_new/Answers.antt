use Rattle.std.proofs.Common.{◌++◌, ◌∷◌, [], ap, sym, ◌∙◌, subst}
use Rattle.std.specs.Prelude.{slice_get}
use Rattle.aw_store.specs.NamedRefs.{IsNamedOnce}
use Rattle.aw_store.proofs.NameLemmas.{once_push, slice_get-last}
use Rattle.aw_store.proofs.names.name_new.Goals as goal

pub returns-clause-once : goal.returns-clause-once
returns-clause-once c =
    let old = c.args.names.now.items in
    subst IsNamedOnce (sym (c.in_ok-push.ensures.items ∙ ap (λ x. old ++ x ∷ []) c.in_ok-copy_ref.ensures)) (once_push old c.args.r.now c.requires.once c.requires.fresh)

pub returns-clause-slot : goal.returns-clause-slot
returns-clause-slot c =
    let old = c.args.names.now.items in
    ap (λ xs. slice_get xs c.len-slot.result) (c.in_ok-push.ensures.items ∙ ap (λ x. old ++ x ∷ []) c.in_ok-copy_ref.ensures)
    ∙ ap (slice_get (old ++ c.args.r.now ∷ [])) (c.len-slot.ensures ∙ c.args.names.now.ok.0)
    ∙ slice_get-last old c.args.r.now
