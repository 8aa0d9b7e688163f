use Rattle.std.proofs.Common.{Some, ap}
use Rattle.aw_out.proofs.Known.{front-and-rest}
use Rattle.aw_out.proofs.memory.MemSourceSource.read.Goals as goal

pub returns-in-Read-clause-bytes : goal.returns-in-Read-clause-bytes
returns-in-Read-clause-bytes c =
    rw (← c.self.view_is, c.in-Read.ensures.bytes, c.split_at.ensures.back, c.as_slice.ensures) (ap Some (front-and-rest c.self.inside.bytes c.self.inside.at c.in-Read.n))
