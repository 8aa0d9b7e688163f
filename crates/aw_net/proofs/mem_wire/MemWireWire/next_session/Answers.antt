use Rattle.std.proofs.Common.{false}
use Rattle.aw_net.proofs.SessionLemmas.{opens-one, one-less}
use Rattle.aw_net.proofs.mem_wire.MemWireWire.next_session.Goals as goal

pub returns-clause-content : goal.returns-clause-content
returns-clause-content c = rw (← c.self.view_is, c.open.ensures) (
  opens-one c.args.role false c.self.inside.sessions,
  one-less c.self.inside.sessions.coming (λ e. absurd (cc (c.is_last.ensures.1 e, c.if-is_last.false))),
)
