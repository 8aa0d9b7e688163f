use Rattle.std.proofs.Common.{arith, ◌≡◌, ◌∙◌, ap, subst, refl, drop}
use Rattle.aw_lex.specs.Lines.{lines_of}
use Rattle.aw_spec.specs.Views.{spec_seen}
use Rattle.aw_spec.specs.Reading.{Faulty, specification}
use Rattle.aw_spec.specs.KindNames.{kind_name}
use Rattle.aw_front.specs.Refusals.{at_line}
use Rattle.aw_front.specs.Output.{Output, BadSpecification}
use Rattle.aw_run.specs.Output.{Makes, IsOutputOf}
use Rattle.aw_run.proofs.LineCounts.{lines-behind}
use Rattle.aw_run.proofs.Outputs.{output-read}
use Rattle.aw_front.proofs.Verdicts.{reply-map, reply-same, bad-line}
use Rattle.aw_run.proofs.Promising.{good-input}
use Rattle.aw_run.specs.Promises.{Promises}
use Rattle.std.proofs.lemmas.Result.{IfOk-weaker}
use Rattle.aw_run.proofs.reading.reply_to.Goals as goal

pub reply_to_specification-requires-clause-lines : goal.reply_to_specification-requires-clause-lines
reply_to_specification-requires-clause-lines c =
    let behind : lines_of c.split_at.result.1.now ≡ drop c.in-Ok.spec.lines (lines_of c.args.input.now) = ap lines_of c.split_at.ensures.back ∙ c.in-Ok.ensures.rest in
    omega (arith, c.requires, lines-behind c.args.input.now c.split_at.result.1.now _ _ _ c.in-Ok.ensures.exact behind)

pub returns-in-Ok-clause-reply : goal.returns-in-Ok-clause-reply
returns-in-Ok-clause-reply c =
    let behind : lines_of c.split_at.result.1.now ≡ drop c.in-Ok.spec.lines (lines_of c.args.input.now) = ap lines_of c.split_at.ensures.back ∙ c.in-Ok.ensures.rest in
    reply-map _ (Makes c.args.job (spec_seen c.in-Ok.spec) c.in-Ok.spec.lines c.in-Ok.spec.loads (lines_of c.split_at.result.1.now)) (IsOutputOf c.args.job c.args.input.now)
    (λ output holds.
    output-read c.args.job c.args.input.now _ output c.requires c.in-Ok.ensures.exact
    (subst (λ behind_it. Makes c.args.job (spec_seen c.in-Ok.spec) c.in-Ok.spec.lines c.in-Ok.spec.loads behind_it output) behind holds))
    c.reply_to_specification.ensures.reply

pub returns-in-Err-Bad-clause-reply : goal.returns-in-Err-Bad-clause-reply
returns-in-Err-Bad-clause-reply c =
    let faulty : specification (lines_of c.args.input.now) ≡ Faulty c.in-Err-Bad.line c.in-Err-Bad.kind = rw c.in-Err-Bad.field-0-is at c.in-Err-Bad.ensures.exact in
    let output : Output = BadSpecification (at_line c.in-Err-Bad.line (kind_name c.in-Err-Bad.kind)) in
    reply-same _ (IsOutputOf c.args.job c.args.input.now) output (output-read c.args.job c.args.input.now _ output c.requires faulty refl)
    (bad-line c.bad_specification.result c.in-Err-Bad.line _ c.in-Err-Bad.kind _ c.in-Err-Bad.line-is c.in-Err-Bad.kind-is c.bad_specification.ensures)

pub returns-in-Ok-clause-promises : goal.returns-in-Ok-clause-promises
returns-in-Ok-clause-promises c =
    let behind : lines_of c.split_at.result.1.now ≡ drop c.in-Ok.spec.lines (lines_of c.args.input.now) = ap lines_of c.split_at.ensures.back ∙ c.in-Ok.ensures.rest in
    IfOk-weaker c.reply_to_specification.result _ _
    (λ said holds done. good-input Promises c.args.job c.args.input.now (spec_seen c.in-Ok.spec) c.in-Ok.spec.lines c.in-Ok.spec.loads
    (lines_of c.split_at.result.1.now) c.in-Ok.ensures.exact behind (holds done))
    c.reply_to_specification.ensures.promises
