use Rattle.std.proofs.Common.{◌≤◌, ◌-◌, length}
use Rattle.aw_session.specs.Sessions.{IsServing}
use Rattle.aw_session.proofs.serving.serve_some.Given as goal

abbrev pub invariant-loop-alloc : goal.invariant-loop-alloc
invariant-loop-alloc g l = record {
  ready : g.H.Handles.ready l.node;
  most : length l.log.items ≤ l.sessions;
  serving : IsServing g.H.Handles.answers g.W.Wire.content g.W.Wire.faults g.W.Wire.failed_openings l.role l.fn.node l.node l.fn.wire l.wire l.log.items;
}

abbrev pub decreases-loop-alloc : goal.decreases-loop-alloc
decreases-loop-alloc g l = l.sessions - length l.log.items
