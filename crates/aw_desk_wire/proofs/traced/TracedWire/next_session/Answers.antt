use Rattle.std.proofs.Math.Logic.{∥∥₁_map}
use Rattle.aw_desk_wire.specs.Shown.{OfficeAnswers}
use Rattle.aw_desk_wire.proofs.SinceLemmas.{since-at, since-closed}
use Rattle.aw_desk_wire.proofs.traced.TracedWire.next_session.Goals as goal

pub invariant_of-self : goal.invariant_of-self
invariant_of-self g c = record {
  honest = ∥∥₁_map c.args.self.now.honest (λ h. since-at _ OfficeAnswers g.K.Moment.offices g.K.Moment.passed _ _ _ _ _ _ c.next_session.ensures.desks
      c.next_session.ensures.reader c.next_session.ensures.calls
      (since-closed _ OfficeAnswers g.K.Moment.offices g.K.Moment.passed c.args.self.now.wire.desks.items c.args.self.now.wire.reader c.args.self.now.wire.calls h));
}
