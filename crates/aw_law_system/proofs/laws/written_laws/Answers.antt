use Rattle.aw_law_nodes.proofs.Mail.{given}
use Rattle.aw_law_system.proofs.Leaving.{roles_stay}
use Rattle.aw_law_system.proofs.Staying.{written_stays, taken_remains}
use Rattle.aw_law_system.proofs.laws.written_laws.Goals as goal

pub returns-clause-written : goal.returns-clause-written
returns-clause-written c = λ g. written_stays g

pub returns-clause-taken : goal.returns-clause-taken
returns-clause-taken c = λ words g a.
    taken_remains g (c.site_laws.ensures.refusals g)
    (roles_stay g (given g (c.world_laws.ensures.invariant words g a) (c.world_laws.ensures.knowledge words g a) (c.world_laws.ensures.homes words g a)) (c.crash_laws.ensures.world g))
