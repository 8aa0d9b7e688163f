use Rattle.std.proofs.Common.{◌∙◌, ap, sym, map, is_some}
use Rattle.std.specs.Prelude.{◌||◌}
use Rattle.aw_store.specs.Equations.{find}
use Rattle.aw_store.specs.EquationView.{equation_of}
use Rattle.aw_site.proofs.FindLemmas.{found_in_both}
use Rattle.aw_site.proofs.finding.has_equation_in_both.Goals as goal

pub returns-then-has_equation : goal.returns-then-has_equation
returns-then-has_equation g c =
    let k = g.F.Facts.map c.args.facts.now in
    let es = map equation_of c.args.more.now in
    c.if-has_equation.true
    ∙ sym (found_in_both k es c.args.r.now ∙ ap (λ b. b || is_some (find es c.args.r.now)) (sym c.has_equation.ensures ∙ c.if-has_equation.true))

pub returns-else-has_equation : goal.returns-else-has_equation
returns-else-has_equation g c =
    let k = g.F.Facts.map c.args.facts.now in
    let es = map equation_of c.args.more.now in
    c.is_behind.ensures
    ∙ sym (found_in_both k es c.args.r.now ∙ ap (λ b. b || is_some (find es c.args.r.now)) (sym c.has_equation.ensures ∙ c.if-has_equation.false))
