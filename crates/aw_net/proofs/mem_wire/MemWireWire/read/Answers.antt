use Rattle.aw_net.proofs.ReadLemmas.{reads-after, reads-content}
use Rattle.aw_net.proofs.mem_wire.MemWireWire.read.Goals as goal

pub returns-clause-after : goal.returns-clause-after
returns-clause-after c = rw (← c.self.view_is, c.read.ensures.left, c.count_move.ensures)
    (reads-after (record { sessions = c.self.inside.sessions; script = c.self.inside.script }) c.read.result _ c.read.ensures.answer)

pub returns-clause-content : goal.returns-clause-content
returns-clause-content c = rw (← c.self.view_is, c.read.ensures.left) (reads-content c.self.inside.sessions c.read.result _ c.read.new.buf c.read.ensures.answer c.read.ensures.bytes)
