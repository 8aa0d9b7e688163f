use Rattle.std.proofs.lemmas.Result.{err_from_is_err_and}
use Rattle.aw_codec.specs.Reading.{times}
use Rattle.aw_codec.specs.Names.{reference}
use Rattle.aw_codec.proofs.Loop.{goes_on, ends, is_done}
use Rattle.aw_codec.proofs.names.some_refs_at.Goals as goal

pub returns-in_err-reference : goal.returns-in_err-reference
returns-in_err-reference c =
    let p = err_from_is_err_and c.from_residual.result c.from_residual.ensures.1 in
    rw (p.1, p.2) (ends c.in_err-reference.field-0.0 reference c.loop.refs.items c.args.count c.loop.counter c.loop.rest.now
    (times reference c.args.count c.args.bytes.now) c.loop-test.true c.in_err-reference.ensures c.loop.invariant)

pub loop-preserved : goal.loop-preserved
loop-preserved c =
    rw c.in_ok-push.ensures.items (goes_on reference c.loop.refs.items c.args.count c.loop.counter c.loop.rest.now c.in_ok-reference.reference
    c.in_ok-reference.behind.now (times reference c.args.count c.args.bytes.now) c.loop-test.true c.in_ok-reference.ensures c.loop.invariant)

pub returns : goal.returns
returns c = is_done reference c.loop.refs.items c.args.count c.loop.counter c.loop.rest.now (times reference c.args.count c.args.bytes.now) c.loop-test.false c.loop.invariant
