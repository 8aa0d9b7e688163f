use Rattle.aw_desk_wire.proofs.ContentLemmas.{writes, fails}
use Rattle.aw_desk_wire.proofs.HonestLemmas.{honest-written}
use Rattle.aw_desk_wire.proofs.wire.DeskWireWire.write.Goals as goal

pub returns-in-Ok-clause-honest : goal.returns-in-Ok-clause-honest
returns-in-Ok-clause-honest g c ds h took =
    honest-written _ _ ds c.args.self.now.desks.items c.answer.new.self.desks.items c.args.self.now.reader c.answer.new.self.reader c.args.b.now
    c.args.self.now.calls c.answer.new.self.calls c.answer.ensures.some h c.in-Ok.ensures.ok

pub returns-in-Ok-clause-content : goal.returns-in-Ok-clause-content
returns-in-Ok-clause-content g c = rw c.in-Ok.ensures.ok.told (writes c.args.self.now.calls c.args.b.now c.in-Ok.ensures.ok.replies c.answer.ensures.some)

pub returns-in-Err-clause-content : goal.returns-in-Err-clause-content
returns-in-Err-clause-content g c = rw (c.fail.ensures.after, c.in-Err.ensures.err) (fails c.args.self.now.calls c.args.b.now c.answer.ensures.some)
