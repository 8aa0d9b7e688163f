use Rattle.std.proofs.Common.{◌≡◌, ◌∙◌, sym, subst, map}
use Rattle.std.specs.Prelude.{Err}
use Rattle.aw_grammar.specs.Written.{written_of}
use Rattle.aw_grammar.specs.GrammarOf.{declarations_of, grammar_of}
use Rattle.aw_sched.specs.LineEvents.{GivesArgs}
use Rattle.aw_sched.proofs.KnownGrounds.{error_is}
use Rattle.aw_sched.proofs.LineLaws.{args_fault, args_found, args_misfit, rule_unknown}
use Rattle.aw_sched.proofs.lookup.chosen_args.Goals as goal

pub returns-in-None : goal.returns-in-None
returns-in-None c =
    rule_unknown c.args.g.now c.args.rule.now (map written_of c.args.args) (sym c.args_are_past.ensures ∙ c.if-args_are_past.false) c.in-None.ensures

pub returns-in_err-args : goal.returns-in_err-args
returns-in_err-args c =
    let g = c.args.g.now in
    let args = map written_of c.args.args in
    let e = c.in_err-args.field-0.0 in
    let failed : c.from_residual.result ≡ Err e = error_is c.from_residual.result e c.from_residual.ensures.1 in
    subst (λ r. GivesArgs (declarations_of g) (grammar_of g) c.args.rule.now args r) (sym failed)
    (args_fault g c.args.rule.now args e (sym c.args_are_past.ensures ∙ c.if-args_are_past.false) c.in_err-args.ensures)

pub returns-then-args_ok : goal.returns-then-args_ok
returns-then-args_ok c =
    let g = c.args.g.now in
    let args = map written_of c.args.args in
    args_found g c.args.rule.now args c.in-Some.rule c.in_ok-args.args (sym c.args_are_past.ensures ∙ c.if-args_are_past.false) c.in-Some.ensures
    c.in_ok-args.ensures c.requires (sym c.args_ok.ensures ∙ c.if-args_ok.true)

pub returns-else-args_ok : goal.returns-else-args_ok
returns-else-args_ok c =
    let g = c.args.g.now in
    let args = map written_of c.args.args in
    args_misfit g c.args.rule.now args c.in-Some.rule c.in_ok-args.args (sym c.args_are_past.ensures ∙ c.if-args_are_past.false) c.in-Some.ensures
    c.in_ok-args.ensures c.requires (sym c.args_ok.ensures ∙ c.if-args_ok.false)
