use Rattle.std.proofs.Common.{◌++◌, ◌∷◌, [], map, ap, ◌∙◌}
use Rattle.aw_store.specs.Equations.{Is}
use Rattle.aw_term.specs.Trees.{Num}
use Rattle.aw_store.specs.EquationView.{equation_of}
use Rattle.aw_apply.proofs.LayLemmas.{on_given}
use Rattle.aw_apply.proofs.laid.open_con.Goals as goal

pub returns-clause-equations : goal.returns-clause-equations
returns-clause-equations c = on_given c.add_place.result
    (λ e. e ∙ ap (λ z. map equation_of c.args.equations.now.items ++ record { left = z; body = Is (Num 0) [] } ∷ []) c.in_ok-part_of.ensures)
    c.add_place.ensures.equations
