use Rattle.aw_msg.specs.FrameView.{frame_of}
use Rattle.aw_session.proofs.Refusals.{err-passed}
use Rattle.aw_session.proofs.TalkLemmas.{talks-none}
use Rattle.aw_session.proofs.answering.answer_frame.Goals as goal

pub returns-in_err-reply-clause-err : goal.returns-in_err-reply-clause-err
returns-in_err-reply-clause-err g c = err-passed _ _ _ c.from_residual.ensures.1 (c.in_err-reply.ensures.err, talks-none _ _ _ _ c.args.wire.now c.requires.«open»)

pub returns-in-Ok-clause-ok : goal.returns-in-Ok-clause-ok
returns-in-Ok-clause-ok g c = λ from to taken sound.
    record {
      request = frame_of c.args.frame.now;
      reply = c.in_ok-reply.reply;
      taken = taken;
      sound = sound;
      answered = c.in_ok-reply.ensures.ok;
      talked = rw c.as_slice.ensures at c.in-Ok.ensures.all;
    }

pub returns-clause-ok : goal.returns-clause-ok
returns-clause-ok g c = λ from to taken sound.
    let p = rw c.as_slice.ensures at c.in-Err.ensures.part in
    record { request = frame_of c.args.frame.now; reply = c.in_ok-reply.reply; count = p.count; taken = taken; answered = c.in_ok-reply.ensures.ok; part = p.part; talked = p.talks }
