use Rattle.std.proofs.Common.{[], ap, ◌∙◌, refl}
use Rattle.std.proofs.lemmas.Bool.{and_from}
use Rattle.aw_store.specs.Equations.{mentions}
use Rattle.aw_store.specs.EquationView.{body_of}
use Rattle.aw_store.specs.NamedRefs.{is_named, all_named}
use Rattle.aw_store.proofs.NameLemmas.{is_named-at, named_first, only_named}
use Rattle.aw_store.proofs.adding.name_body.Goals as goal

pub returns-in_ok-name_one-in-Same-clause-ok : goal.returns-in_ok-name_one-in-Same-clause-ok
returns-in_ok-name_one-in-Same-clause-ok c =
    let new = c.name_one.new.names.items in
    ap (λ b. all_named new (mentions (body_of b))) c.in-Same.is ∙ and_from _ _ (is_named-at new _ _ c.in_ok-name_one-in-Same.ensures.slot) refl

pub returns-in_ok-name_one-in-Same-clause-only : goal.returns-in_ok-name_one-in-Same-clause-only
returns-in_ok-name_one-in-Same-clause-only c =
    let r = c.in-Same.r in
    only_named c.name_one.result c.args.names.now.items c.name_one.new.names.items (mentions (body_of c.args.body.now)) r
    (ap (λ b. is_named (mentions (body_of b)) r) c.in-Same.is ∙ named_first r []) c.name_one.ensures.ok c.name_one.ensures.err
