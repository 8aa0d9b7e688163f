use Rattle.std.proofs.lemmas.Result.{err_from_is_err_and}
use Rattle.aw_codec.specs.Reading.{times}
use Rattle.aw_codec.proofs.Loop.{goes_on, ends, is_done}
use Rattle.aw_msg.specs.Messages.{equation}
use Rattle.aw_msg.proofs.equations.some_equations_at.Goals as goal

pub returns-in_err-equation : goal.returns-in_err-equation
returns-in_err-equation c =
    let p = err_from_is_err_and c.from_residual-in_err-equation.result c.from_residual-in_err-equation.ensures.1 in
    rw (p.1, p.2) (ends c.in_err-equation.field-0.0 equation c.loop.equations.items c.args.count c.loop.counter c.loop.rest.now
    (times equation c.args.count c.args.bytes.now) c.loop-test.true c.in_err-equation.ensures c.loop.invariant)

pub loop-preserved : goal.loop-preserved
loop-preserved c =
    rw c.in_ok-push.ensures.items (goes_on equation c.loop.equations.items c.args.count c.loop.counter c.loop.rest.now c.in_ok-equation.equation
    c.in_ok-equation.behind.now (times equation c.args.count c.args.bytes.now) c.loop-test.true c.in_ok-equation.ensures c.loop.invariant)

pub returns : goal.returns
returns c = is_done equation c.loop.equations.items c.args.count c.loop.counter c.loop.rest.now (times equation c.args.count c.args.bytes.now) c.loop-test.false c.loop.invariant
