use Rattle.std.proofs.Common.{take, refl}
use Rattle.aw_session.proofs.Ends.{going-read, going-failed}
use Rattle.aw_session.proofs.TalkLemmas.{talks-then, talks-read, talks-not_read}
use Rattle.aw_session.proofs.session.Session.next_piece.Goals as goal

pub returns-in-Read-clause-ok : goal.returns-in-Read-clause-ok
returns-in-Read-clause-ok g c s u going =
    let now = talks-read g.W.Wire.content g.W.Wire.is_open g.W.Wire.faults g.W.Wire.failed_openings c.args.wire.now c.read.new.self c.in-Read.n c.read.new.buf
    c.in-Read.ensures.«open» c.in-Read.ensures.content (c.in-Read.ensures.kept (λ e. absurd (cc e))) c.in-Read.ensures.same_openings in
    c.take_piece.ensures.ok s u going.read going.frames going.replies going.yields going.sized going.counted going.answered
    (going-read _ _ _ _ g.W.Wire.content (talks-then _ _ _ _) _ _ _ _ _ _ _ _ going (take c.in-Read.n c.read.new.buf) now)

pub returns-in-Read-clause-err : goal.returns-in-Read-clause-err
returns-in-Read-clause-err g c s u going =
    let now = talks-read g.W.Wire.content g.W.Wire.is_open g.W.Wire.faults g.W.Wire.failed_openings c.args.wire.now c.read.new.self c.in-Read.n c.read.new.buf
    c.in-Read.ensures.«open» c.in-Read.ensures.content (c.in-Read.ensures.kept (λ e. absurd (cc e))) c.in-Read.ensures.same_openings in
    c.take_piece.ensures.err s u going.read going.frames going.replies going.yields going.sized going.answered
    (going-read _ _ _ _ g.W.Wire.content (talks-then _ _ _ _) _ _ _ _ _ _ _ _ going (take c.in-Read.n c.read.new.buf) now)

pub returns-in-Failed-clause-ok : goal.returns-in-Failed-clause-ok
returns-in-Failed-clause-ok g c s u going =
    going-failed _ _ _ _ g.W.Wire.content (talks-then _ _ _ _) _ _ _ _ _ _ _ _ going
    (talks-not_read g.W.Wire.content g.W.Wire.is_open g.W.Wire.faults g.W.Wire.failed_openings c.args.wire.now c.read.new.self c.read.new.buf
    c.in-Failed.ensures.«open» c.in-Failed.ensures.content c.in-Failed.ensures.never_falls (c.in-Failed.ensures.cause refl) c.in-Failed.ensures.same_openings)
