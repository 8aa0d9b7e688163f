use Rattle.std.proofs.Common.{◌∙◌, ap, sym, map, option_map}
use Rattle.std.proofs.lemmas.Result.{IfOk-weaker}
use Rattle.aw_store.specs.EquationView.{body_of, equation_of}
use Rattle.aw_store.proofs.MoreEquations.{find-left_more, find-right_more}
use Rattle.aw_site.proofs.finding.body_in_both.Goals as goal

pub returns-in-Some : goal.returns-in-Some
returns-in-Some g c =
    let k = g.F.Facts.map c.args.facts.now in
    sym (find-left_more k (map equation_of c.args.more.now) c.args.r.now (body_of c.in-Some.body) (sym c.in_ok-body.ensures ∙ ap (option_map body_of) c.in-Some.is))

pub returns-in-None : goal.returns-in-None
returns-in-None g c =
    let k = g.F.Facts.map c.args.facts.now in
    IfOk-weaker c.body_behind.result _ _
    (λ body e. e ∙ sym (find-right_more k (map equation_of c.args.more.now) c.args.r.now (sym c.in_ok-body.ensures ∙ ap (option_map body_of) c.in-None.is)))
    c.body_behind.ensures
