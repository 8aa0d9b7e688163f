use Rattle.std.proofs.Common.{◌-◌, length, [], false}
use Rattle.aw_session.specs.Talking.{Talks}
use Rattle.aw_courier.proofs.ReplyLemmas.{IsWithin}
use Rattle.aw_courier.proofs.asking.read_reply.Given as goal

abbrev pub invariant-reading : goal.invariant-reading
invariant-reading g l = record {
  talks : Talks g.W.Wire.content g.W.Wire.is_open g.W.Wire.faults g.W.Wire.failed_openings l.fn.wire l.wire l.bytes [] false;
  within : IsWithin l.request l.bytes;
}

abbrev pub decreases-reading : goal.decreases-reading
decreases-reading g l = 1048581 - length l.bytes
