use Rattle.std.proofs.Common.{refl, ap}
use Rattle.aw_msg.specs.Streams.{Stream}
use Rattle.aw_session.specs.declared.answering.Stop.TheVariants as stop
use Rattle.aw_session.proofs.Pieces.{take-waits, take-long, take-bad, take-broken, take-halted, take-nothing}
use Rattle.aw_session.proofs.Refusals.{err-passed}
use Rattle.aw_session.proofs.StopLemmas.{stops-at}
use Rattle.aw_session.proofs.TalkLemmas.{talks-none, talks-then}
use Rattle.aw_session.proofs.session.Session.take_piece.Goals as goal

pub returns-in_err-feed-clause-err : goal.returns-in_err-feed-clause-err
returns-in_err-feed-clause-err g c s u read frames replies y n a k =
    take-nothing _ _ _ _ g.W.Wire.content (talks-then _ _ _ _) s _ u _ c.args.self.now.reader.bytes c.args.piece.now c.split_at.result.0.now _
    c.args.self.now.total c.min-within.result _ read frames replies
    (record { yields = y; sized = n; counted = refl; answered = a; talked = k; limited = c.requires.within; within_is = c.min-within.ensures; front_is = c.split_at.ensures.front; from_is = refl })
    _ c.from_residual.result (talks-none _ _ _ _ c.args.wire.now c.requires.«open»)

pub returns-in_err-answer_frames-clause-err : goal.returns-in_err-answer_frames-clause-err
returns-in_err-answer_frames-clause-err g c s u read frames replies y n a k =
    err-passed _ _ _ c.from_residual-in_err-answer_frames.ensures.1
    (take-halted _ _ _ _ g.W.Wire.content (talks-then _ _ _ _) s _ u _ c.args.self.now.reader.bytes c.args.piece.now c.split_at.result.0.now
    c.feed.new.self.bytes c.args.self.now.total c.min-within.result _ read frames replies
    (record {
      yields = y;
      sized = n;
      counted = refl;
      answered = a;
      talked = k;
      limited = c.requires.within;
      within_is = c.min-within.ensures;
      front_is = c.split_at.ensures.front;
      from_is = ap (λ (x : Stream). x.bytes) c.in_ok-feed.ensures.ok;
    })
    _ _ _ _ c.in_err-answer_frames.ensures.err)

pub returns-in-Waits-clause-ok : goal.returns-in-Waits-clause-ok
returns-in-Waits-clause-ok g c s u read frames replies y n m a k =
    take-waits _ _ _ _ g.W.Wire.content (talks-then _ _ _ _) s _ u _ c.args.self.now.reader.bytes c.args.piece.now c.split_at.result.0.now
    c.feed.new.self.bytes c.args.self.now.total c.min-within.result _ read frames replies
    (record {
      yields = y;
      sized = n;
      counted = m;
      answered = a;
      talked = k;
      limited = c.requires.within;
      within_is = c.min-within.ensures;
      front_is =
          c.split_at.ensures.front;
      from_is = ap (λ (x : Stream). x.bytes) c.in_ok-feed.ensures.ok;
    })
    _ _ c.answer_frames.new.reader c.answer_frames.new.count c.in_ok-answer_frames.ensures.counted (stops-at _ _ _ _ _ _ _ _ stop.Waits c.in-Waits.is
    c.in_ok-answer_frames.ensures.ok) (c.in_ok-answer_frames.ensures.sound c.in-Waits.is) c.if-within-piece.true

pub returns-in-Waits-2-clause-ok : goal.returns-in-Waits-2-clause-ok
returns-in-Waits-2-clause-ok g c s u read frames replies y n m a k =
    take-long _ _ _ _ g.W.Wire.content (talks-then _ _ _ _) s _ u _ c.args.self.now.reader.bytes c.args.piece.now c.split_at.result.0.now
    c.feed.new.self.bytes c.args.self.now.total c.min-within.result _ read frames replies
    (record {
      yields = y;
      sized = n;
      counted = m;
      answered = a;
      talked = k;
      limited = c.requires.within;
      within_is = c.min-within.ensures;
      front_is =
          c.split_at.ensures.front;
      from_is = ap (λ (x : Stream). x.bytes) c.in_ok-feed.ensures.ok;
    })
    _ _ _ c.answer_frames.new.reader.bytes c.answer_frames.new.count c.end_with.result _ c.in_ok-answer_frames.ensures.counted
    (stops-at _ _ _ _ _ _ _ _ stop.Waits c.in-Waits-2.is c.in_ok-answer_frames.ensures.ok) c.if-within-piece.false refl c.end_with.ensures

pub returns-in-Bad-clause-ok : goal.returns-in-Bad-clause-ok
returns-in-Bad-clause-ok g c s u read frames replies y n m a k =
    take-bad _ _ _ _ g.W.Wire.content (talks-then _ _ _ _) s _ u _ c.args.self.now.reader.bytes c.args.piece.now c.split_at.result.0.now
    c.feed.new.self.bytes c.args.self.now.total c.min-within.result _ read frames replies
    (record {
      yields = y;
      sized = n;
      counted = m;
      answered = a;
      talked = k;
      limited = c.requires.within;
      within_is = c.min-within.ensures;
      front_is =
          c.split_at.ensures.front;
      from_is = ap (λ (x : Stream). x.bytes) c.in_ok-feed.ensures.ok;
    })
    _ _ _ c.answer_frames.new.reader.bytes c.answer_frames.new.count c.end_with-in-Bad.result _ c.in_ok-answer_frames.ensures.counted
    (stops-at _ _ _ _ _ _ _ _ stop.Bad c.in-Bad.is c.in_ok-answer_frames.ensures.ok) refl c.end_with-in-Bad.ensures

pub returns-in-Broken-clause-ok : goal.returns-in-Broken-clause-ok
returns-in-Broken-clause-ok g c s u read frames replies y n m a k =
    take-broken _ _ _ _ g.W.Wire.content (talks-then _ _ _ _) s _ u _ c.args.self.now.reader.bytes c.args.piece.now c.split_at.result.0.now
    c.feed.new.self.bytes c.args.self.now.total c.min-within.result _ read frames replies
    (record {
      yields = y;
      sized = n;
      counted = m;
      answered = a;
      talked = k;
      limited = c.requires.within;
      within_is = c.min-within.ensures;
      front_is =
          c.split_at.ensures.front;
      from_is = ap (λ (x : Stream). x.bytes) c.in_ok-feed.ensures.ok;
    })
    _ _ c.answer_frames.new.reader.bytes c.answer_frames.new.count c.in_ok-answer_frames.ensures.counted (stops-at _ _ _ _ _ _ _ _ stop.Broken c.in-Broken.is c.in_ok-answer_frames.ensures.ok)
