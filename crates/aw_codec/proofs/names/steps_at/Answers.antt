use Rattle.std.proofs.Common.{◌∷◌, [], arith}
use Rattle.std.proofs.lemmas.List.{length-append}
use Rattle.std.proofs.lemmas.Result.{err_from_is_err_and}
use Rattle.aw_codec.specs.Reading.{times}
use Rattle.aw_codec.specs.Names.{step}
use Rattle.aw_codec.proofs.Loop.{goes_on, ends, is_done}
use Rattle.aw_codec.proofs.names.steps_at.Goals as goal

pub returns-in_err-step-clause-read : goal.returns-in_err-step-clause-read
returns-in_err-step-clause-read c =
    let p = err_from_is_err_and c.from_residual.result c.from_residual.ensures.1 in
    rw (p.1, p.2) (ends c.in_err-step.field-0.0 step c.loop.steps.items c.args.count c.loop.counter c.loop.rest.now
    (times step c.args.count c.args.bytes.now) c.loop-test.true c.in_err-step.ensures c.loop.invariant.0)

pub loop-preserved : goal.loop-preserved
loop-preserved c =
    let n = c.in_ok-step.step in (
      rw c.in_ok-push.ensures.items (goes_on step c.loop.steps.items c.args.count c.loop.counter c.loop.rest.now n c.in_ok-step.behind.now
          (times step c.args.count c.args.bytes.now) c.loop-test.true c.in_ok-step.ensures c.loop.invariant.0),
      rw (c.in_ok-push.ensures.items, length-append c.loop.steps.items (n ∷ [])) (omega (arith, c.loop.invariant.1)),
    )

pub returns-clause-read : goal.returns-clause-read
returns-clause-read c = is_done step c.loop.steps.items c.args.count c.loop.counter c.loop.rest.now (times step c.args.count c.args.bytes.now) c.loop-test.false c.loop.invariant.0
