use Rattle.std.proofs.Common.{length}
use Rattle.aw_msg.specs.Pieces.{IsSound}
use Rattle.aw_desk_wire.specs.Asking.{IsStretch}
use Rattle.aw_desk_wire.proofs.asking.ask_all.Given as goal

abbrev pub invariant-loop-replies : goal.invariant-loop-replies
invariant-loop-replies g l = record {
  sound : IsSound l.fn.reader → IsSound l.reader;
  stretch : IsStretch g.D.Desk.answers l.role l.fn.desks.items l.desks.items l.fn.reader l.reader l.replies;
}

abbrev pub decreases-loop-replies : goal.decreases-loop-replies
decreases-loop-replies g l = length l.reader.bytes
