use Rattle.std.proofs.Common.{refl}
use Rattle.std.proofs.Math.Logic.{∥∥₁_map}
use Rattle.aw_desk_wire.specs.Shown.{OfficeAnswers}
use Rattle.aw_desk_wire.proofs.SinceLemmas.{since-at, since-dialed}
use Rattle.aw_desk_wire.proofs.traced.TracedWire.dial.Goals as goal

pub invariant_of-self : goal.invariant_of-self
invariant_of-self g c = record {
  honest = ∥∥₁_map c.args.self.now.honest (λ h. since-at _ OfficeAnswers g.K.Moment.offices g.K.Moment.passed _ _ _ _ _ _ c.dial.ensures.desks c.dial.ensures.reader refl
      (since-dialed _ OfficeAnswers g.K.Moment.offices g.K.Moment.passed c.dial.result c.args.role c.args.self.now.wire.desks.items
      c.args.self.now.wire.reader c.args.self.now.wire.calls c.dial.new.self.calls
      c.dial.ensures.opened c.dial.ensures.closed h));
}
