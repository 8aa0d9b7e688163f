use Rattle.std.proofs.Math.Logic.{∥∥₁_map}
use Rattle.aw_desk_wire.specs.Shown.{OfficeAnswers}
use Rattle.aw_desk_wire.proofs.SinceLemmas.{since-at, since-read}
use Rattle.aw_desk_wire.proofs.traced.TracedWire.read.Goals as goal

pub invariant_of-self : goal.invariant_of-self
invariant_of-self g c = record {
  honest = ∥∥₁_map c.args.self.now.honest (λ h. since-at _ OfficeAnswers g.K.Moment.offices g.K.Moment.passed _ _ _ _ _ _ c.read.ensures.desks c.read.ensures.reader c.read.ensures.calls
      (since-read _ OfficeAnswers g.K.Moment.offices g.K.Moment.passed c.read.result c.args.self.now.wire.desks.items c.args.self.now.wire.reader c.args.self.now.wire.calls c.requires.«open» h));
}
