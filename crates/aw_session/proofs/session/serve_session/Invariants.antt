use Rattle.std.proofs.Common.{◌-◌}
use Rattle.aw_session.specs.Course.{IsGoing}
use Rattle.aw_session.specs.Served.{limit}
use Rattle.aw_session.specs.Talking.{Talks}
use Rattle.aw_session.proofs.session.serve_session.Given as goal

abbrev pub invariant-loop-session : goal.invariant-loop-session
invariant-loop-session g l = record {
  ready : g.H.Handles.ready l.node;
  going : IsGoing g.H.Handles.answers (Talks g.W.Wire.content g.W.Wire.is_open g.W.Wire.faults g.W.Wire.failed_openings) l.fn.node l.node l.fn.wire
      l.wire l.session.reader l.session.total l.session.frames;
}

abbrev pub decreases-loop-session : goal.decreases-loop-session
decreases-loop-session g l = limit - l.session.total
