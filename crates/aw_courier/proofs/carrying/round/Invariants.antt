use Rattle.std.proofs.Common.{◌≡◌}
use Rattle.aw_term.specs.Rules.{Grammar}
use Rattle.aw_law_nodes.specs.Couriers.{Courier}
use Rattle.aw_courier.specs.Carrying.{IsRoundMade}
use Rattle.aw_courier.specs.Mails.{Shows, HasRoles, SameSize}
use Rattle.aw_courier.proofs.carrying.round.Given as goal

abbrev pub invariant-turns : goal.invariant-turns
invariant-turns g l = record {
  roles : HasRoles l.roles l.mails;
  size : SameSize l.fn.mails l.mails;
  made : (p : Grammar) (c : Courier) → p.roles ≡ l.roles → Shows p l.fn.mails c →
      IsRoundMade p g.W.Wire.content g.W.Wire.faults g.W.Wire.failed_openings c l.role l.fn.wire l.wire l.mails l.moved;
}
