use Rattle.std.proofs.lemmas.Result.{err_from_is_err_and}
use Rattle.aw_codec.specs.Reading.{times}
use Rattle.aw_codec.proofs.Contents.{content_byte}
use Rattle.aw_codec.proofs.Loop.{goes_on, ends, is_done}
use Rattle.aw_codec.proofs.texts.content_at.Goals as goal

pub returns-in_err-found : goal.returns-in_err-found
returns-in_err-found c =
    let p = err_from_is_err_and c.from_residual.result c.from_residual.ensures.1 in
    rw (p.1, p.2) (ends c.in_err-found.field-0.0 content_byte c.loop.content.items c.args.count c.loop.counter c.loop.rest.now
    (times content_byte c.args.count c.args.bytes.now) c.loop-test.true c.in_err-found.ensures c.loop.invariant)

pub loop-preserved : goal.loop-preserved
loop-preserved c =
    rw c.in_ok-push.ensures.items (goes_on content_byte c.loop.content.items c.args.count c.loop.counter c.loop.rest.now c.in_ok-found.found
    c.in_ok-found.behind.now (times content_byte c.args.count c.args.bytes.now) c.loop-test.true c.in_ok-found.ensures c.loop.invariant)

pub returns : goal.returns
returns c = rw c.from_vec.ensures (is_done content_byte c.loop.content.items c.args.count c.loop.counter c.loop.rest.now
    (times content_byte c.args.count c.args.bytes.now) c.loop-test.false c.loop.invariant)
