use Rattle.std.proofs.Common.{◌≡◌, ◌<◌, ◌+◌, ◌-◌, sym, ap, ◌∙◌, arith, length}
use Rattle.std.proofs.lemmas.List.{length-append}
use Rattle.aw_session.proofs.Refusals.{err-passed}
use Rattle.aw_session.proofs.TalkLemmas.{talks-none, talks-then}
use Rattle.aw_session.specs.Talking.{Talks}
use Rattle.aw_courier.specs.Replies.{size_from}
use Rattle.aw_courier.proofs.AskLemmas.{not-read, wrong-read, more-read}
use Rattle.aw_courier.proofs.ReplyLemmas.{none-begins, short-of, within-more, size-within}
use Rattle.aw_courier.proofs.asking.read_reply.Goals as goal

pub reading-init : goal.reading-init
reading-init g c = record {
  talks = rw c.new-bytes.ensures (talks-none _ _ _ _ c.args.wire.now c.requires);
  within = λ n e. omega (arith, ap length c.new-bytes.ensures);
}

pub returns-in_default-clause-err : goal.returns-in_default-clause-err
returns-in_default-clause-err g c p =
    let none = ap (λ b. size_from c.args.request b) (sym c.as_slice.ensures) ∙ sym c.size_of.ensures ∙ c.in_default.is in
    wrong-read p c.args.request (Talks g.W.Wire.content g.W.Wire.is_open g.W.Wire.faults g.W.Wire.failed_openings) c.args.wire.now c.reading.wire
    c.reading.bytes _ c.reading.invariant.talks (none-begins p c.args.request c.reading.bytes none)

pub reading-smaller : goal.reading-smaller
reading-smaller g c =
    let k = c.in_ok-read_more.ensures.ok in
    let size-is = ap (λ b. size_from c.args.request b) (sym c.as_slice.ensures) ∙ sym c.size_of.ensures ∙ c.in-Some.is in
    let most = (size-within c.args.request c.reading.bytes c.in-Some.size size-is).1 in
    let long : length c.read_more.new.bytes ≡ length c.reading.bytes + length k.piece = ap length k.more ∙ length-append c.reading.bytes k.piece in
    let less : 1048581 - length c.read_more.new.bytes < 1048581 - length c.reading.bytes = omega (arith, long, k.some_, c.if-size-len.false, c.len.ensures, most) in
    less

pub reading-preserved : goal.reading-preserved
reading-preserved g c =
    let k = c.in_ok-read_more.ensures.ok in
    let size-is = ap (λ b. size_from c.args.request b) (sym c.as_slice.ensures) ∙ sym c.size_of.ensures ∙ c.in-Some.is in
    let within = c.reading.invariant.within c.in-Some.size size-is in
    record {
      talks = rw k.more (more-read _ (talks-then g.W.Wire.content g.W.Wire.is_open g.W.Wire.faults g.W.Wire.failed_openings) c.args.wire.now
          c.reading.wire c.read_more.new.wire c.reading.bytes k.piece c.reading.invariant.talks k.talked);
      within = rw k.more (within-more c.args.request c.reading.bytes k.piece c.in-Some.size size-is (omega (arith, k.few, c.len-in-reading.ensures)) within);
    }

pub returns-in_err-read_more-clause-err : goal.returns-in_err-read_more-clause-err
returns-in_err-read_more-clause-err g c p =
    let size-is = ap (λ b. size_from c.args.request b) (sym c.as_slice.ensures) ∙ sym c.size_of.ensures ∙ c.in-Some.is in
    err-passed _ _ _ c.from_residual.ensures.1
    (not-read p c.args.request _ (talks-then g.W.Wire.content g.W.Wire.is_open g.W.Wire.faults g.W.Wire.failed_openings) c.args.wire.now
    c.reading.wire c.read_more.new.wire c.reading.bytes _ _ c.reading.invariant.talks
    (short-of p c.args.request c.reading.bytes c.in-Some.size size-is (omega (arith, c.if-size-len.false, c.len.ensures))) c.in_err-read_more.ensures.err)
