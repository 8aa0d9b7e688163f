use Rattle.std.proofs.Common.{length}
use Rattle.aw_desk_wire.proofs.ContentLemmas.{reads}
use Rattle.aw_desk_wire.proofs.wire.DeskWireWire.read.Goals as goal

pub returns-clause-content : goal.returns-clause-content
returns-clause-content g c = rw c.read.ensures.after (reads c.args.self.now.calls c.read.result (length c.args.buf.now) c.read.new.buf c.read.ensures.some c.read.ensures.answer c.read.ensures.bytes)
