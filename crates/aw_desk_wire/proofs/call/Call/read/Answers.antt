use Rattle.aw_desk_wire.proofs.CallLemmas.{reads-more}
use Rattle.aw_desk_wire.proofs.call.Call.read.Goals as goal

pub returns-in-Read-clause-after : goal.returns-in-Read-clause-after
returns-in-Read-clause-after c =
    rw (← c.self.view_is) (reads-more c.self.inside.role c.self.inside.replies c.self.inside.written c.self.inside.failed c.self.inside.at c.in-Read.n)
