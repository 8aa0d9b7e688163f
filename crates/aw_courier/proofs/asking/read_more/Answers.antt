use Rattle.std.proofs.Common.{◌++◌, take, refl, ap, ◌∙◌, arith}
use Rattle.std.proofs.lemmas.List.{length-take}
use Rattle.std.proofs.lemmas.Result.{err_from_is_err_and}
use Rattle.aw_session.proofs.TalkLemmas.{talks-read, talks-end, talks-not_read}
use Rattle.aw_out.proofs.WireLemmas.{end-unread}
use Rattle.aw_courier.proofs.asking.read_more.Goals as goal

pub returns-in_err-push_bytes-in-Read-clause-err : goal.returns-in_err-push_bytes-in-Read-clause-err
returns-in_err-push_bytes-in-Read-clause-err g c =
    let now = talks-read g.W.Wire.content g.W.Wire.is_open g.W.Wire.faults g.W.Wire.failed_openings c.args.wire.now c.read.new.self c.in-Read.n c.read.new.buf
    c.in-Read.ensures.«open» c.in-Read.ensures.content (c.in-Read.ensures.kept (λ e. absurd (cc e))) c.in-Read.ensures.same_openings in
    let p = err_from_is_err_and c.from_residual.result c.from_residual.ensures.1 in
    rw (p.1, p.2) (take c.in-Read.n c.read.new.buf, now)

pub returns-in_ok-push_bytes-in-Read-clause-ok : goal.returns-in_ok-push_bytes-in-Read-clause-ok
returns-in_ok-push_bytes-in-Read-clause-ok g c =
    let now = talks-read g.W.Wire.content g.W.Wire.is_open g.W.Wire.faults g.W.Wire.failed_openings c.args.wire.now c.read.new.self c.in-Read.n c.read.new.buf
    c.in-Read.ensures.«open» c.in-Read.ensures.content (c.in-Read.ensures.kept (λ e. absurd (cc e))) c.in-Read.ensures.same_openings in
    let len = length-take c.in-Read.n c.read.new.buf in
    record {
      piece = take c.in-Read.n c.read.new.buf;
      talked = now;
      some_ = omega (arith, len, c.in-Read.ensures.count.0, c.in-Read.ensures.count.1);
      few = omega (arith, len, c.in-Read.ensures.count.1, c.read.auto.buf, c.split_at_mut-front.ensures.front_len, c.min.ensures);
      more = c.in_ok-push_bytes-in-Read.ensures.ok ∙ ap (λ p. c.args.bytes.now ++ p) c.split_at.ensures.front;
    }

pub returns-in-End-clause-err : goal.returns-in-End-clause-err
returns-in-End-clause-err g c = (
  talks-end g.W.Wire.content g.W.Wire.is_open g.W.Wire.faults g.W.Wire.failed_openings c.args.wire.now c.read.new.self c.read.new.buf
      c.in-End.ensures.«open» c.in-End.ensures.content (c.in-End.ensures.kept (λ e. absurd (cc e))) c.in-End.ensures.same_openings,
  end-unread c.read.new.buf _ _ c.in-End.ensures.content,
)

pub returns-in-Failed-clause-err : goal.returns-in-Failed-clause-err
returns-in-Failed-clause-err g c =
    talks-not_read g.W.Wire.content g.W.Wire.is_open g.W.Wire.faults g.W.Wire.failed_openings c.args.wire.now c.read.new.self c.read.new.buf
    c.in-Failed.ensures.«open» c.in-Failed.ensures.content c.in-Failed.ensures.never_falls (c.in-Failed.ensures.cause refl) c.in-Failed.ensures.same_openings
