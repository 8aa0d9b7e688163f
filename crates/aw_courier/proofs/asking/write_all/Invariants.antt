use Rattle.std.proofs.Common.{◌≤◌, ◌-◌, length, take, [], false}
use Rattle.aw_session.specs.Talking.{Talks}
use Rattle.aw_courier.proofs.asking.write_all.Given as goal

abbrev pub invariant-loop-done : goal.invariant-loop-done
invariant-loop-done g l = record {
  in_range : l.done ≤ length l.bytes;
  talks : Talks g.W.Wire.content g.W.Wire.is_open g.W.Wire.faults g.W.Wire.failed_openings l.fn.wire l.wire [] (take l.done l.bytes) false;
}

abbrev pub decreases-loop-done : goal.decreases-loop-done
decreases-loop-done g l = length l.bytes - l.done
