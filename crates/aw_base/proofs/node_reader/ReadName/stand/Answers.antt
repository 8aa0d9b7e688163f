use Rattle.std.proofs.Common.{sym}
use Rattle.aw_base.proofs.node_reader.ReadName.stand.Goals as goal

pub returns-in-Some-clause-stands : goal.returns-in-Some-clause-stands
returns-in-Some-clause-stands c = c.requires.last c.in-Some.front.now (sym (rw c.deref.ensures.value at c.in-Some.ensures.value))
