use Rattle.std.proofs.Common.{◌≡◌, take, length, refl, [], ℕ, false, true, ap, ◌∙◌, arith, append-nil}
use Rattle.std.proofs.Math.Seq.{take-add, take-length}
use Rattle.aw_session.proofs.TalkLemmas.{talks-none, talks-then, talks-took, talks-not_taken}
use Rattle.aw_courier.proofs.asking.write_all.Goals as goal

pub loop-done-init : goal.loop-done-init
loop-done-init g c = record { in_range = omega arith; talks = talks-none _ _ _ _ c.args.wire.now c.requires }

pub loop-done-preserved : goal.loop-done-preserved
loop-done-preserved g c =
    let now = talks-took g.W.Wire.content g.W.Wire.is_open g.W.Wire.faults g.W.Wire.failed_openings c.loop-done.wire c.write.new.self c.in-Took.n c.split_at.result.1.now
    c.in-Took.ensures.«open» c.in-Took.ensures.content (c.in-Took.ensures.kept (λ e. absurd (cc e))) c.in-Took.ensures.same_openings in
    record {
      in_range = omega (arith, c.split_at.ensures.back_len, c.in-Took.ensures.count.1);
      talks = rw (take-add c.loop-done.done c.in-Took.n c.args.bytes.now) (talks-then _ _ _ _ _ _ _ [] _ [] _ false c.loop-done.invariant.talks (rw c.split_at.ensures.back at now));
    }

pub write-requires : goal.write-requires
write-requires g c = record { some = omega (arith, c.split_at.ensures.back_len, c.loop-done-test.true); «open» = c.loop-done.invariant.talks.stays }

pub returns : goal.returns
returns g c =
    let end : c.loop-done.done ≡ length c.args.bytes.now = omega (arith, c.loop-done.invariant.in_range, c.loop-done-test.false) in
    record { all = rw (ap (λ (n : ℕ). take n c.args.bytes.now) end ∙ take-length c.args.bytes.now) at c.loop-done.invariant.talks; part = tt; fault = tt }

pub returns-in-Failed : goal.returns-in-Failed
returns-in-Failed g c =
    let now = talks-not_taken g.W.Wire.content g.W.Wire.is_open g.W.Wire.faults g.W.Wire.failed_openings c.loop-done.wire c.write.new.self c.split_at.result.1.now
    c.in-Failed.ensures.«open» c.in-Failed.ensures.content c.in-Failed.ensures.never_falls (c.in-Failed.ensures.cause refl) c.in-Failed.ensures.same_openings in
    record {
      all = tt;
      fault = refl;
      part = record {
        count = c.loop-done.done;
        part = c.loop-done-test.true;
        talks = rw (append-nil (take c.loop-done.done c.args.bytes.now)) at (talks-then _ _ _ _ _ _ _ [] _ [] _ true c.loop-done.invariant.talks now);
      };
    }
