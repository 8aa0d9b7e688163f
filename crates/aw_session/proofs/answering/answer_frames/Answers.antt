use Rattle.std.proofs.Common.{◌≡◌, ◌+◌, ◌-◌, ℕ, [], ap, arith}
use Rattle.aw_msg.proofs.Extensions.{frame_shorter}
use Rattle.aw_session.specs.declared.answering.Went.TheVariants as went
use Rattle.aw_session.proofs.NextLemmas.{goes-at}
use Rattle.aw_session.proofs.Refusals.{err-passed}
use Rattle.aw_session.proofs.Stretches.{stretch-none, stretch-step, stretch-waits, stretch-bad, stretch-broken, stretch-halts}
use Rattle.aw_session.proofs.TalkLemmas.{talks-none, talks-then}
use Rattle.aw_session.proofs.answering.answer_frames.Goals as goal

pub loop-count-init : goal.loop-count-init
loop-count-init g c = record {
  ready = c.requires.ready;
  sound = c.requires.sound;
  rises = omega arith;
  room = omega arith;
  stretch = rw (less-itself c.args.count.now) (stretch-none _ _ c.args.node.now c.args.reader.now.bytes (talks-none _ _ _ _ c.args.wire.now c.requires.«open»));
}
  where
    less-itself : (n : ℕ) → n - n ≡ 0
    less-itself n = omega arith

pub returns-in_err-answer_next-clause-err : goal.returns-in_err-answer_next-clause-err
returns-in_err-answer_next-clause-err g c =
    err-passed _ _ _ c.from_residual.ensures.1
    (stretch-halts _ _ _ _ _ _ _ _ _ _ _ _ (λ w x b a k. talks-then _ _ _ _ _ _ _ [] w [] x b a k) c.loop-count.invariant.stretch c.in_err-answer_next.ensures.err.0 c.in_err-answer_next.ensures.err.1)

pub overflow_add-count : goal.overflow_add-count
overflow_add-count g c =
    let step = goes-at _ _ _ _ _ _ _ went.Answered c.in-Answered.is c.in_ok-answer_next.ensures.ok in
    let one = frame_shorter c.loop-count.reader.bytes step.request c.answer_next.new.reader.bytes step.taken in
    omega (arith, one, c.loop-count.invariant.room, c.requires.room)

pub loop-count-smaller : goal.loop-count-smaller
loop-count-smaller g c =
    let step = goes-at _ _ _ _ _ _ _ went.Answered c.in-Answered.is c.in_ok-answer_next.ensures.ok in
    frame_shorter c.loop-count.reader.bytes step.request c.answer_next.new.reader.bytes step.taken

pub loop-count-preserved : goal.loop-count-preserved
loop-count-preserved g c =
    let step = goes-at _ _ _ _ _ _ _ went.Answered c.in-Answered.is c.in_ok-answer_next.ensures.ok in
    let one = frame_shorter c.loop-count.reader.bytes step.request c.answer_next.new.reader.bytes step.taken in
    let count : (c.loop-count.count + 1) - c.args.count.now ≡ (c.loop-count.count - c.args.count.now) + 1 = omega (arith, c.loop-count.invariant.rises) in
    record {
      ready = c.in_ok-answer_next.ensures.ready;
      sound = step.sound;
      rises = omega (arith, c.loop-count.invariant.rises);
      room = omega (arith, one, c.loop-count.invariant.room);
      stretch = rw count (stretch-step _ _ _ _ _ _ _ _ c.loop-count.reader c.answer_next.new.reader _ (λ w x b a k. talks-then _ _ _ _ _ _ _ [] w [] x b a k) c.loop-count.invariant.stretch step);
    }

pub returns-in-Waits-clause-ok : goal.returns-in-Waits-clause-ok
returns-in-Waits-clause-ok g c =
    let step = goes-at _ _ _ _ _ _ _ went.Waits c.in-Waits.is c.in_ok-answer_next.ensures.ok in
    stretch-waits _ _ _ _ _ _ _ _ _ _ _ (λ w x b a k. talks-then _ _ _ _ _ _ _ [] w [] x b a k) c.loop-count.invariant.stretch step.0 (ap (λ s. s.bytes) step.1) step.2 step.3

pub returns-in-Bad-clause-ok : goal.returns-in-Bad-clause-ok
returns-in-Bad-clause-ok g c =
    let step = goes-at _ _ _ _ _ _ _ went.Bad c.in-Bad.is c.in_ok-answer_next.ensures.ok in
    stretch-bad _ _ _ _ _ _ _ _ _ _ _ (λ w x b a k. talks-then _ _ _ _ _ _ _ [] w [] x b a k) c.loop-count.invariant.stretch step.0 step.1 step.2 step.3

pub overflow_add-count-in-Broken : goal.overflow_add-count-in-Broken
overflow_add-count-in-Broken g c =
    let step = goes-at _ _ _ _ _ _ _ went.Broken c.in-Broken.is c.in_ok-answer_next.ensures.ok in
    let one = frame_shorter c.loop-count.reader.bytes step.request c.answer_next.new.reader.bytes step.taken in
    omega (arith, one, c.loop-count.invariant.room, c.requires.room)

pub returns-in-Broken-clause-ok : goal.returns-in-Broken-clause-ok
returns-in-Broken-clause-ok g c =
    let step = goes-at _ _ _ _ _ _ _ went.Broken c.in-Broken.is c.in_ok-answer_next.ensures.ok in
    let count : (c.loop-count.count + 1) - c.args.count.now ≡ (c.loop-count.count - c.args.count.now) + 1 = omega (arith, c.loop-count.invariant.rises) in
    rw count (stretch-broken _ _ _ _ _ _ _ _ c.loop-count.reader c.answer_next.new.reader _ (λ w x b a k. talks-then _ _ _ _ _ _ _ [] w [] x b a k) c.loop-count.invariant.stretch step)
