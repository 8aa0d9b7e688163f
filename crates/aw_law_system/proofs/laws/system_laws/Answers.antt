use Rattle.std.proofs.Common.{true}
use Rattle.aw_law_nodes.proofs.Mail.{given}
use Rattle.aw_law_system.proofs.Joining.{journals_are_joint}
use Rattle.aw_law_system.proofs.Leaving.{system_is_one_world, crashes_are_allowed}
use Rattle.aw_law_system.proofs.laws.system_laws.Goals as goal

pub returns-clause-world : goal.returns-clause-world
returns-clause-world c = λ words g a.
    system_is_one_world g (given g (c.world_laws.ensures.invariant words g a) (c.world_laws.ensures.knowledge words g a) (c.world_laws.ensures.homes words g a)) (c.crash_laws.ensures.world g)

pub returns-clause-crashes : goal.returns-clause-crashes
returns-clause-crashes c = λ words g a.
    crashes_are_allowed g (given g (c.world_laws.ensures.invariant words g a) (c.world_laws.ensures.knowledge words g a) (c.world_laws.ensures.homes words g a)) (c.crash_laws.ensures.world g)

pub returns-clause-joint : goal.returns-clause-joint
returns-clause-joint c = λ words t g a.
    journals_are_joint t g (system_is_one_world g (given g (c.world_laws.ensures.invariant words g a) (c.world_laws.ensures.knowledge words g a)
    (c.world_laws.ensures.homes words g a)) (c.crash_laws.ensures.world g) true)
