use Rattle.aw_law_nodes.proofs.Mail.{given}
use Rattle.aw_law_nodes.proofs.Carried.{quiet_means_quiet}
use Rattle.aw_law_nodes.proofs.Encoding.{messages_are_encodable}
use Rattle.aw_law_nodes.proofs.HonestBytes.{bytes_are_honest}
use Rattle.aw_law_nodes.proofs.Ending.{rounds_are_bounded}
use Rattle.aw_law_nodes.proofs.HeardBytes.{bytes_are_heard}
use Rattle.aw_law_nodes.proofs.laws.courier_laws.Goals as goal

pub returns-clause-quiet : goal.returns-clause-quiet
returns-clause-quiet c = λ words g a size small loads.
    quiet_means_quiet g (given g (c.world_laws.ensures.invariant words g a) (c.world_laws.ensures.knowledge words g a) (c.world_laws.ensures.homes words g a)) loads size small

pub returns-clause-bytes : goal.returns-clause-bytes
returns-clause-bytes c = bytes_are_heard

pub returns-clause-ends : goal.returns-clause-ends
returns-clause-ends c = λ words g a size loads.
    rounds_are_bounded g size (given g (c.world_laws.ensures.invariant words g a) (c.world_laws.ensures.knowledge words g a)
    (c.world_laws.ensures.homes words g a)) loads (c.merge_laws.ensures.bound words g a)

pub returns-clause-encodable : goal.returns-clause-encodable
returns-clause-encodable c = messages_are_encodable

pub returns-clause-honest : goal.returns-clause-honest
returns-clause-honest c = λ words g a.
    bytes_are_honest g (given g (c.world_laws.ensures.invariant words g a) (c.world_laws.ensures.knowledge words g a) (c.world_laws.ensures.homes words g a)) (messages_are_encodable words g a)
