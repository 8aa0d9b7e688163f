use Rattle.aw_desk_wire.proofs.QuietLemmas.{turns-honest}
use Rattle.aw_desk_wire.proofs.WorldLemmas.{world-honest}
use Rattle.aw_desk_wire.proofs.law.turns_are_honest.Goals as goal

pub returns-clause-readable : goal.returns-clause-readable
returns-clause-readable c = turns-honest

pub returns-clause-world : goal.returns-clause-world
returns-clause-world c = λ words r a. world-honest r (c.world_laws.ensures.invariant words r.grammar a) (c.courier_laws.ensures.honest words r.grammar a)
