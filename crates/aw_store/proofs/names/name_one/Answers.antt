use Rattle.std.proofs.Common.{ap, sym, ◌∙◌}
use Rattle.std.specs.Prelude.{slice_get}
use Rattle.aw_store.proofs.NameLemmas.{is_named-at, with_name-named}
use Rattle.aw_store.proofs.names.name_one.Goals as goal

pub returns-in-Some-clause-ok : goal.returns-in-Some-clause-ok
returns-in-Some-clause-ok c =
    let at = ap (λ ns. slice_get ns c.in-Some.slot) (sym c.as_slice.ensures.value) ∙ c.in-Some.ensures in
    with_name-named c.args.names.now.items c.args.r.now (is_named-at _ c.in-Some.slot _ at)
