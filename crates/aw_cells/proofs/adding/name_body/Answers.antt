use Rattle.std.proofs.Common.{[], ap, sym, ◌∙◌, refl}
use Rattle.std.proofs.lemmas.Bool.{and_from}
use Rattle.aw_store.specs.Equations.{mentions}
use Rattle.aw_store.specs.EquationView.{body_of}
use Rattle.aw_store.specs.NamedRefs.{is_named, all_named}
use Rattle.aw_store.proofs.NameLemmas.{is_named-at, named_first, only_named}
use Rattle.aw_cells.specs.TableView.{names_of}
use Rattle.aw_cells.proofs.BodyLemmas.{refs_of-named}
use Rattle.aw_cells.proofs.adding.name_body.Goals as goal

pub returns-in_ok-slot-in-Same-clause-ok : goal.returns-in_ok-slot-in-Same-clause-ok
returns-in_ok-slot-in-Same-clause-ok c =
    let new = names_of c.name_one.new.t in
    ap (λ b. all_named new (mentions (body_of b))) c.in-Same.is ∙ and_from _ _ (is_named-at new _ _ c.in_ok-slot-in-Same.ensures.slot) refl

pub returns-in_ok-slots-in-Con-clause-ok : goal.returns-in_ok-slots-in-Con-clause-ok
returns-in_ok-slots-in-Con-clause-ok c =
    let new = names_of c.name_parts.new.t in
    ap (λ b. all_named new (mentions (body_of b))) c.in-Con.is ∙ ap (all_named new) (sym (c.in_ok-slots-in-Con.ensures.slots ∙ c.as_slice.ensures)) ∙ refs_of-named new c.in_ok-slots-in-Con.slots.items

pub returns-in_ok-slot-in-Same-clause-only : goal.returns-in_ok-slot-in-Same-clause-only
returns-in_ok-slot-in-Same-clause-only c =
    let r = c.in-Same.r in
    only_named c.name_one.result (names_of c.args.t.now) (names_of c.name_one.new.t) (mentions (body_of c.args.body.now)) r
    (ap (λ b. is_named (mentions (body_of b)) r) c.in-Same.is ∙ named_first r []) c.name_one.ensures.ok c.name_one.ensures.err
