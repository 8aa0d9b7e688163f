use Rattle.aw_desk_wire.proofs.HonestLemmas.{honest-opened}
use Rattle.aw_desk_wire.proofs.wire.DeskWireWire.dial.Goals as goal

pub returns-in-Ok-clause-honest : goal.returns-in-Ok-clause-honest
returns-in-Ok-clause-honest g c ds h = rw c.in-Ok.ensures.ok (honest-opened _ _ ds c.args.role c.args.self.now.desks.items c.args.self.now.reader c.new.result c.args.self.now.calls c.new.ensures h)
