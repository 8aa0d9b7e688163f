use Rattle.std.proofs.Common.{◌∙◌, ap, sym, option_map, Some, refl}
use Rattle.aw_apply.specs.Messages.{OfReference}
use Rattle.aw_store.specs.EquationView.{body_of}
use Rattle.aw_site.proofs.Clashing.{clash_same, clash_other}
use Rattle.aw_site.proofs.clashes.clash_at.Goals as goal

pub returns-then-is_same_body : goal.returns-then-is_same_body
returns-then-is_same_body g c =
    clash_same _ c.in-Some.kept c.args.e.now.body (ap (option_map body_of) (sym c.in-Some.is) ∙ c.in_ok-kept.ensures) (c.if-is_same_body.ensures.0 refl)

pub returns-in_ok-copy_body-in-Some : goal.returns-in_ok-copy_body-in-Some
returns-in_ok-copy_body-in-Some g c =
    ap (λ b. Some (record { kept = OfReference (body_of c.in-Some.kept); came = OfReference (body_of b) })) c.in_ok-copy_body-in-Some.ensures
    ∙ clash_other _ c.in-Some.kept c.args.e.now.body (ap (option_map body_of) (sym c.in-Some.is) ∙ c.in_ok-kept.ensures) (λ same. let never = c.if-is_same_body.ensures.1 same in cc)
