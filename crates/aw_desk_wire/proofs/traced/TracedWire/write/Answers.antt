use Rattle.std.proofs.Math.Logic.{∥∥₁_map}
use Rattle.aw_desk_wire.specs.Shown.{OfficeAnswers}
use Rattle.aw_desk_wire.proofs.SinceLemmas.{since-write}
use Rattle.aw_desk_wire.proofs.traced.TracedWire.write.Goals as goal

pub invariant_of-self : goal.invariant_of-self
invariant_of-self g c = record {
  honest = ∥∥₁_map c.args.self.now.honest (λ h. since-write _ OfficeAnswers g.K.Moment.offices g.K.Moment.passed c.write.result
      c.args.self.now.wire.desks.items c.write.new.self.desks.items c.args.self.now.wire.reader c.write.new.self.reader
      c.args.b.now c.args.self.now.wire.calls c.write.new.self.calls c.write.ensures.some c.requires.«open» c.write.ensures.asked c.write.ensures.failed h);
}
