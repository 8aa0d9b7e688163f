use Rattle.aw_session.proofs.Refusals.{err-passed}
use Rattle.aw_session.proofs.TalkLemmas.{talks-then}
use Rattle.aw_courier.proofs.AskLemmas.{not-written, not-answered, answered, ok-map, err-map}
use Rattle.aw_courier.proofs.asking.ask.Goals as goal

pub returns-in_err-write_all-clause-err : goal.returns-in_err-write_all-clause-err
returns-in_err-write_all-clause-err g c p =
    err-passed _ _ _ c.from_residual.ensures.1
    (rw c.in_err-write_all.ensures.fault
    (not-written p c.args.request g.W.Wire.content g.W.Wire.is_open g.W.Wire.faults g.W.Wire.failed_openings c.args.wire.now c.write_all.new.wire c.args.frame.now _ c.in_err-write_all.ensures.part))

pub returns-clause-ok : goal.returns-clause-ok
returns-clause-ok g c =
    ok-map c.read_reply.result _ _ (λ bytes h. answered c.args.request _ (talks-then g.W.Wire.content g.W.Wire.is_open g.W.Wire.faults
    g.W.Wire.failed_openings) c.args.wire.now c.write_all.new.wire c.read_reply.new.wire c.args.frame.now bytes c.in_ok-write_all.ensures.all
    h) c.read_reply.ensures.ok

pub returns-clause-err : goal.returns-clause-err
returns-clause-err g c p =
    err-map c.read_reply.result _ _ (λ fault h. not-answered p c.args.request _ (talks-then g.W.Wire.content g.W.Wire.is_open g.W.Wire.faults
    g.W.Wire.failed_openings) c.args.wire.now c.write_all.new.wire c.read_reply.new.wire c.args.frame.now _ fault c.in_ok-write_all.ensures.all h)
    (c.read_reply.ensures.err p)
