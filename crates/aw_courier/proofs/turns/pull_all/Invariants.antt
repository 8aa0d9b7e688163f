use Rattle.std.proofs.Common.{◌≡◌, true}
use Rattle.aw_term.specs.Rules.{Grammar}
use Rattle.aw_session.specs.Talking.{Talks}
use Rattle.aw_law_nodes.specs.Couriers.{Courier, turn_messages}
use Rattle.aw_courier.specs.Mails.{Holds, SameSize}
use Rattle.aw_courier.specs.Turns.{IsUnderway, pulling}
use Rattle.aw_courier.proofs.turns.pull_all.Given as goal

abbrev pub invariant-pulling : goal.invariant-pulling
invariant-pulling g l = record {
  holds : Holds l.role l.mails;
  size : SameSize l.fn.mails l.mails;
  underway : (p : Grammar) (c : Courier) (u : _) →
      IsUnderway p (Talks g.W.Wire.content g.W.Wire.is_open g.W.Wire.faults g.W.Wire.failed_openings) c l.role u l.fn.wire l.fn.mails
      (pulling l.role l.fn.pushes.room turn_messages) l.fn.pushes.moved →
      IsUnderway p (Talks g.W.Wire.content g.W.Wire.is_open g.W.Wire.faults g.W.Wire.failed_openings) c l.role u l.wire l.mails (pulling l.role l.room l.left) l.moved;
  stays : g.W.Wire.is_open l.wire ≡ true;
}

abbrev pub decreases-pulling : goal.decreases-pulling
decreases-pulling g l = l.left
