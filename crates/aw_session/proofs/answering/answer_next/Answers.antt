use Rattle.std.proofs.Common.{refl, sym, ap, ◌∙◌}
use Rattle.std.proofs.lemmas.Result.{IfOk-weaker}
use Rattle.aw_msg.specs.FrameView.{frame_of}
use Rattle.aw_msg.specs.NextView.{answer_of}
use Rattle.aw_msg.proofs.PieceLemmas.{was_ready}
use Rattle.aw_session.proofs.NextLemmas.{was-short, was-bad}
use Rattle.aw_session.proofs.Refusals.{err-reading, err-replying}
use Rattle.aw_session.proofs.TalkLemmas.{talks-none}
use Rattle.aw_session.proofs.answering.answer_next.Goals as goal

pub returns-in_err-next-clause-err : goal.returns-in_err-next-clause-err
returns-in_err-next-clause-err g c = err-reading _ _ _ _ _ (talks-none _ _ _ _ c.args.wire.now c.requires.«open»)

pub returns-in-Need-clause-ok : goal.returns-in-Need-clause-ok
returns-in-Need-clause-ok g c =
    let w = was-short c.args.reader.now c.next.new.self (sym (ap answer_of c.in-Need.is) ∙ c.in_ok-next.ensures.answer) c.in_ok-next.ensures.left in
    (w.0, w.1, refl, talks-none _ _ _ _ c.args.wire.now c.requires.«open»)

pub returns-in-Bad-clause-ok : goal.returns-in-Bad-clause-ok
returns-in-Bad-clause-ok g c =
    let w = was-bad c.args.reader.now c.next.new.self c.requires.sound (sym (ap answer_of c.in-Bad.is) ∙ c.in_ok-next.ensures.answer) c.in_ok-next.ensures.left in
    (w.0, w.1, refl, talks-none _ _ _ _ c.args.wire.now c.requires.«open»)

pub returns-in-Frame-clause-ok : goal.returns-in-Frame-clause-ok
returns-in-Frame-clause-ok g c =
    let r = was_ready c.args.reader.now (frame_of c.in-Frame.frame) c.next.new.self (sym (ap answer_of c.in-Frame.is) ∙ c.in_ok-next.ensures.answer) c.in_ok-next.ensures.left in
    IfOk-weaker c.answer_frame.result _ _ (λ w goes. goes c.args.reader.now c.next.new.self r.0 r.1) c.answer_frame.ensures.ok

pub returns-in-Frame-clause-err : goal.returns-in-Frame-clause-err
returns-in-Frame-clause-err g c =
    let r = was_ready c.args.reader.now (frame_of c.in-Frame.frame) c.next.new.self (sym (ap answer_of c.in-Frame.is) ∙ c.in_ok-next.ensures.answer) c.in_ok-next.ensures.left in
    err-replying _ _ _ _ _ _ _ c.answer_frame.result r.0 c.answer_frame.ensures.err
