use Rattle.std.proofs.Common.{true}
use Rattle.aw_net.proofs.SessionLemmas.{opens-one, no-more}
use Rattle.aw_net.proofs.mem_wire.MemWireWire.dial.Goals as goal

pub returns-clause-content : goal.returns-clause-content
returns-clause-content c = rw (← c.self.view_is, c.open.ensures) (opens-one c.args.role true c.self.inside.sessions, no-more c.self.inside.sessions.coming)
