use Rattle.aw_session.proofs.Servings.{next-done, next-halted}
use Rattle.aw_session.proofs.serving.serve_next.Goals as goal

pub returns-in-Ok-clause-ok : goal.returns-in-Ok-clause-ok
returns-in-Ok-clause-ok g c = (
  c.in-Ok.entry,
  cc (c.note.ensures, c.in_default.ensures.items),
  next-done _ _ g.W.Wire.is_open _ _ c.args.role _ _ c.args.wire.now c.next_session.new.self c.serve_session.new.wire c.in-Ok.entry c.in-Session.ensures.content
      (c.in-Session.ensures.kept (λ e. absurd (cc e))) (c.in-Session.ensures.openings_kept (λ e. absurd (cc e))) c.in-Ok.ensures.ok,
)

pub returns-in-Err-serve_session-clause-err : goal.returns-in-Err-serve_session-clause-err
returns-in-Err-serve_session-clause-err g c =
    next-halted _ _ _ g.W.Wire.is_open g.W.Wire.faults _ c.args.role _ _ c.args.wire.now c.next_session.new.self c.serve_session.new.wire
    c.in-Err-serve_session.fault c.in-Session.ensures.content c.in-Err-serve_session.ensures.err
