use Rattle.std.proofs.Common.{◌≡◌, true, length}
use Rattle.aw_term.specs.Rules.{Grammar}
use Rattle.aw_session.specs.Talking.{Talks}
use Rattle.aw_law_nodes.specs.Couriers.{Courier}
use Rattle.aw_courier.specs.Mails.{Shows, Holds, SameSize, queue_at}
use Rattle.aw_courier.specs.Turns.{IsUnderway, pushing}
use Rattle.aw_courier.proofs.turns.push_all.Given as goal

abbrev pub invariant-pushing : goal.invariant-pushing
invariant-pushing g l = record {
  holds : Holds l.role l.mails;
  size : SameSize l.fn.mails l.mails;
  underway : (p : Grammar) (c : Courier) → Shows p l.fn.mails c →
      IsUnderway p (Talks g.W.Wire.content g.W.Wire.is_open g.W.Wire.faults g.W.Wire.failed_openings) c l.role l.fn.wire l.wire l.mails (pushing l.role l.pushes.room) l.pushes.moved;
  stays : g.W.Wire.is_open l.wire ≡ true;
}

abbrev pub decreases-pushing : goal.decreases-pushing
decreases-pushing g l = length (queue_at l.mails l.role)
