use Rattle.std.proofs.Common.{[], ap, ◌∙◌}
use Rattle.std.proofs.lemmas.Bool.{lt-ltb}
use Rattle.std.proofs.lemmas.Option.{slice_get_within}
use Rattle.aw_store.specs.Equations.{mentions}
use Rattle.aw_store.specs.EquationView.{body_of}
use Rattle.aw_store.specs.NamedRefs.{is_named}
use Rattle.aw_store.proofs.NameLemmas.{named_first, only_named}
use Rattle.aw_cells.specs.TableView.{names_of}
use Rattle.aw_cells.proofs.adding.stored_of.Goals as goal

pub returns-in_ok-name_one-in-Same-clause-only : goal.returns-in_ok-name_one-in-Same-clause-only
returns-in_ok-name_one-in-Same-clause-only c =
    let r = c.in-Same.r in
    only_named c.name_one.result (names_of c.args.t.now) (names_of c.name_one.new.t) (mentions (body_of c.args.body)) r
    (ap (λ b. is_named (mentions (body_of b)) r) c.in-Same.is ∙ named_first r []) c.name_one.ensures.ok c.name_one.ensures.err

pub returns-in_ok-name_one-in-Same-clause-fits : goal.returns-in_ok-name_one-in-Same-clause-fits
returns-in_ok-name_one-in-Same-clause-fits c = lt-ltb _ _ (slice_get_within (names_of c.name_one.new.t) _ _ c.in_ok-name_one-in-Same.ensures.slot)
