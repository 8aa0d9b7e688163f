use Rattle.std.proofs.Common.{◌<◌, ◌^◌, sym, subst, ◌∙◌, arith}
use Rattle.aw_session.proofs.Refusals.{err-passed}
use Rattle.aw_session.proofs.TalkLemmas.{talks-then}
use Rattle.aw_session.specs.Talking.{Talks}
use Rattle.aw_courier.specs.Mails.{place_at}
use Rattle.aw_courier.specs.Pulls.{IsPulled}
use Rattle.aw_courier.proofs.MailLemmas.{role-few, same-put, still-holds, size-then}
use Rattle.aw_courier.proofs.StepLemmas.{pulled-one, pulled-none, pull-stops, pull-forgets, pull-over, pull-spent}
use Rattle.aw_courier.proofs.turns.pull_all.Goals as goal

pub returns-in_err-letter-clause-err : goal.returns-in_err-letter-clause-err
returns-in_err-letter-clause-err g c p co u k =
    let h = c.pulling.invariant.underway p co u k in
    err-passed _ _ _ c.from_residual.ensures.1
    (pull-stops p (Talks g.W.Wire.content g.W.Wire.is_open g.W.Wire.faults g.W.Wire.failed_openings) (talks-then g.W.Wire.content g.W.Wire.is_open
    g.W.Wire.faults g.W.Wire.failed_openings) co c.args.role c.pulling.room c.pulling.left u c.pulling.wire c.pull.new.wire
    c.pulling.mails c.pulling.moved _ _ h
    (role-few p c.args.role c.pulling.mails h.now c.pulling.invariant.holds h.shows) c.pulling-test.true c.if-room-ge-PULL.true
    (rw c.place-place.ensures at (c.in_err-letter.ensures.err p (sym h.shows.many ∙ sym c.roles.ensures))))

pub returns-in_default-clause-ok : goal.returns-in_default-clause-ok
returns-in_default-clause-ok g c p co u k =
    let h = c.pulling.invariant.underway p co u k in
    pulled-none p (Talks g.W.Wire.content g.W.Wire.is_open g.W.Wire.faults g.W.Wire.failed_openings) (talks-then g.W.Wire.content g.W.Wire.is_open
    g.W.Wire.faults g.W.Wire.failed_openings) co c.args.role c.pulling.room c.pulling.left u c.pulling.wire c.pull.new.wire c.pulling.mails
    c.pulling.moved h c.pulling-test.true c.if-room-ge-PULL.true
    (subst (λ n. n < 2 ^ 64) c.place-place.ensures c.pull.ensures.fits)
    (subst (λ x. IsPulled p (place_at c.pulling.mails c.args.role) ((Talks g.W.Wire.content g.W.Wire.is_open g.W.Wire.faults g.W.Wire.failed_openings)
    c.pulling.wire c.pull.new.wire) x) c.in_default.is
    (rw c.place-place.ensures at (c.in_ok-letter.ensures.ok p (sym h.shows.many ∙ sym c.roles.ensures))))

pub returns-in_err-put-clause-err : goal.returns-in_err-put-clause-err
returns-in_err-put-clause-err g c p co u k =
    let h = c.pulling.invariant.underway p co u k in
    err-passed _ _ _ c.from_residual-in_err-put.ensures.1
    (pull-forgets p (Talks g.W.Wire.content g.W.Wire.is_open g.W.Wire.faults g.W.Wire.failed_openings) (talks-then g.W.Wire.content g.W.Wire.is_open
    g.W.Wire.faults g.W.Wire.failed_openings) co c.args.role c.pulling.room c.pulling.left u c.pulling.wire c.pull.new.wire c.pulling.mails
    c.pulling.moved _ c.in-Some.letter h
    (role-few p c.args.role c.pulling.mails h.now c.pulling.invariant.holds h.shows) c.pulling-test.true c.if-room-ge-PULL.true
    (subst (λ x. IsPulled p (place_at c.pulling.mails c.args.role) ((Talks g.W.Wire.content g.W.Wire.is_open g.W.Wire.faults g.W.Wire.failed_openings) c.pulling.wire c.pull.new.wire) x) c.in-Some.is
    (rw c.place-place.ensures at (c.in_ok-letter.ensures.ok p (sym h.shows.many ∙ sym c.roles.ensures)))))

pub pulling-preserved : goal.pulling-preserved
pulling-preserved g c =
    let queues = rw c.from.ensures at c.in_ok-put.ensures.queues in
    let same = same-put c.pulling.mails c.put.new.self c.args.role c.in-Some.letter.to _ _ queues c.in_ok-put.ensures.places in
    record {
      holds = still-holds c.args.role c.pulling.mails c.put.new.self c.pulling.invariant.holds same;
      size = size-then c.args.mails.now c.pulling.mails c.put.new.self c.pulling.invariant.size same;
      underway = λ p co u k.
          let h = c.pulling.invariant.underway p co u k in
          pulled-one p (Talks g.W.Wire.content g.W.Wire.is_open g.W.Wire.faults g.W.Wire.failed_openings)
          (talks-then g.W.Wire.content g.W.Wire.is_open g.W.Wire.faults g.W.Wire.failed_openings) co c.args.role c.pulling.room c.pulling.left u
          c.pulling.wire c.pull.new.wire c.pulling.mails c.put.new.self c.pulling.moved c.in-Some.letter h
          (role-few p c.args.role c.pulling.mails h.now c.pulling.invariant.holds h.shows) c.pulling-test.true c.if-room-ge-PULL.true
          (subst (λ n. n < 2 ^ 64) c.place-place.ensures c.pull.ensures.fits)
          (subst (λ x. IsPulled p (place_at c.pulling.mails c.args.role)
          ((Talks g.W.Wire.content g.W.Wire.is_open g.W.Wire.faults g.W.Wire.failed_openings) c.pulling.wire c.pull.new.wire) x) c.in-Some.is
          (rw c.place-place.ensures at (c.in_ok-letter.ensures.ok p (sym h.shows.many ∙ sym c.roles.ensures)))) queues c.in_ok-put.ensures.places;
      stays = c.in_ok-letter.ensures.stays;
    }

pub returns-else-room-ge-PULL-clause-ok : goal.returns-else-room-ge-PULL-clause-ok
returns-else-room-ge-PULL-clause-ok g c p co u k =
    pull-over p (Talks g.W.Wire.content g.W.Wire.is_open g.W.Wire.faults g.W.Wire.failed_openings) co c.args.role c.pulling.room c.pulling.left u
    c.pulling.wire c.pulling.mails c.pulling.moved (c.pulling.invariant.underway p co u k) c.if-room-ge-PULL.false

pub returns-after-pulling-clause-ok : goal.returns-after-pulling-clause-ok
returns-after-pulling-clause-ok g c p co u k =
    pull-spent p (Talks g.W.Wire.content g.W.Wire.is_open g.W.Wire.faults g.W.Wire.failed_openings) co c.args.role c.pulling.room c.pulling.left u
    c.pulling.wire c.pulling.mails c.pulling.moved (c.pulling.invariant.underway p co u k) (omega (arith, c.pulling-test.false))
