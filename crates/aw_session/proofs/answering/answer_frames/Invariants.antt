use Rattle.std.proofs.Common.{◌≡◌, ◌≤◌, ◌+◌, ◌-◌, ℕ, List, Bool, length, false, []}
use Rattle.aw_session.specs.Steps.{IsStretch}
use Rattle.aw_session.specs.Talking.{Talks}
use Rattle.aw_session.proofs.answering.answer_frames.Given as goal

abbrev pub invariant-loop-count : goal.invariant-loop-count
invariant-loop-count g l = record {
  ready : g.H.Handles.ready l.node;
  sound : l.reader.failed ≡ false;
  rises : l.fn.count ≤ l.count;
  room : l.count + length l.reader.bytes ≤ l.fn.count + length l.fn.reader.bytes;
  stretch : IsStretch g.H.Handles.answers (λ (w : List ℕ) (b : Bool). Talks g.W.Wire.content g.W.Wire.is_open g.W.Wire.faults g.W.Wire.failed_openings l.fn.wire l.wire [] w b)
      l.fn.node l.node l.fn.reader.bytes l.reader.bytes (l.count - l.fn.count);
}

abbrev pub decreases-loop-count : goal.decreases-loop-count
decreases-loop-count g l = length l.reader.bytes
