use Rattle.aw_session.proofs.Refusals.{err-passed}
use Rattle.aw_session.proofs.TalkLemmas.{talks-none, talks-then}
use Rattle.aw_session.specs.Talking.{Talks}
use Rattle.aw_courier.specs.Mails.{queue_at}
use Rattle.aw_courier.proofs.MailLemmas.{role-few, same-size, still-holds, size-then, size-self}
use Rattle.aw_courier.proofs.StepLemmas.{pushed-one, push-stops, push-full, push-done, kept-all}
use Rattle.aw_courier.proofs.TurnLemmas.{at-first}
use Rattle.aw_courier.proofs.turns.push_all.Goals as goal

pub pushing-init : goal.pushing-init
pushing-init g c = record {
  holds = c.requires.role;
  size = size-self c.args.mails.now;
  underway = λ p co s. at-first p _ co c.args.role c.args.wire.now c.args.mails.now (talks-none _ _ _ _ c.args.wire.now c.requires.«open») s;
  stays = c.requires.«open»;
}

pub returns-in_err-ask-in-Frame-clause-err : goal.returns-in_err-ask-in-Frame-clause-err
returns-in_err-ask-in-Frame-clause-err g c p co s =
    let h = c.pushing.invariant.underway p co s in
    err-passed _ _ _ c.from_residual.ensures.1
    (push-stops p _ (talks-then g.W.Wire.content g.W.Wire.is_open g.W.Wire.faults g.W.Wire.failed_openings) co c.args.role c.pushing.pushes.room
    c.args.wire.now c.pushing.wire c.ask.new.wire c.pushing.mails c.pushing.pushes.moved c.in-Frame.frame
    (queue_at c.next_for.new.self c.args.role) _ _ h (role-few p c.args.role c.pushing.mails h.now c.pushing.invariant.holds h.shows) c.in-Frame.ensures.next.0 c.in-Frame.ensures.next.1
    (rw c.as_slice.ensures at (c.in_err-ask-in-Frame.ensures.err p)))

pub pushing-preserved : goal.pushing-preserved
pushing-preserved g c =
    let asked = rw c.as_slice.ensures at c.in_ok-ask-in-Frame.ensures.ok in
    let same = same-size c.pushing.mails c.next_for.new.self c.args.role (queue_at c.next_for.new.self c.args.role) c.in-Frame.ensures.same in
    record {
      holds = still-holds c.args.role c.pushing.mails c.next_for.new.self c.pushing.invariant.holds same;
      size = size-then c.args.mails.now c.pushing.mails c.next_for.new.self c.pushing.invariant.size same;
      underway = λ p co s.
          let h = c.pushing.invariant.underway p co s in
          rw c.len.ensures (pushed-one p (Talks g.W.Wire.content g.W.Wire.is_open g.W.Wire.faults g.W.Wire.failed_openings)
          (talks-then g.W.Wire.content g.W.Wire.is_open g.W.Wire.faults g.W.Wire.failed_openings) co c.args.role c.pushing.pushes.room
          c.args.wire.now c.pushing.wire c.ask.new.wire c.pushing.mails c.next_for.new.self c.pushing.pushes.moved
          c.in-Frame.frame (queue_at c.next_for.new.self c.args.role) _ h (role-few p c.args.role c.pushing.mails h.now c.pushing.invariant.holds
          h.shows) c.in-Frame.ensures.next.0 c.in-Frame.ensures.next.1 c.in-Frame.ensures.same asked);
      stays = asked.talked.stays;
    }

pub returns-in-TooLong-clause-ok : goal.returns-in-TooLong-clause-ok
returns-in-TooLong-clause-ok g c p co s =
    let h = c.pushing.invariant.underway p co s in
    let next = c.in-TooLong.ensures.next in
    push-full p _ co c.args.role c.pushing.pushes.room c.args.wire.now c.pushing.wire c.pushing.mails c.next_for.new.self c.pushing.pushes.moved
    next.1 next.2 h (role-few p c.args.role c.pushing.mails h.now c.pushing.invariant.holds h.shows)
    (kept-all c.pushing.mails c.next_for.new.self c.args.role c.in-TooLong.ensures.same next.0) next.3 next.4

pub returns-in-Nothing-clause-ok : goal.returns-in-Nothing-clause-ok
returns-in-Nothing-clause-ok g c p co s =
    let h = c.pushing.invariant.underway p co s in
    let next = c.in-Nothing.ensures.next in
    push-done p _ co c.args.role c.pushing.pushes.room c.args.wire.now c.pushing.wire c.pushing.mails c.next_for.new.self c.pushing.pushes.moved h
    (role-few p c.args.role c.pushing.mails h.now c.pushing.invariant.holds h.shows)
    (kept-all c.pushing.mails c.next_for.new.self c.args.role c.in-Nothing.ensures.same next.0) next.1
