use Rattle.aw_law_nodes.proofs.Mail.{given}
use Rattle.aw_law_nodes.proofs.Served.{served_nodes, served_replies, own_sessions, messages_are_outboxes}
use Rattle.aw_law_nodes.proofs.laws.node_laws.Goals as goal

pub returns-clause-served : goal.returns-clause-served
returns-clause-served c = λ words g a. served_nodes g (given g (c.world_laws.ensures.invariant words g a) (c.world_laws.ensures.knowledge words g a) (c.world_laws.ensures.homes words g a))

pub returns-clause-replies : goal.returns-clause-replies
returns-clause-replies c = λ words g a. served_replies g (given g (c.world_laws.ensures.invariant words g a) (c.world_laws.ensures.knowledge words g a) (c.world_laws.ensures.homes words g a))

pub returns-clause-own : goal.returns-clause-own
returns-clause-own c = λ g. own_sessions g

pub returns-clause-outboxes : goal.returns-clause-outboxes
returns-clause-outboxes c = λ words g a loads. messages_are_outboxes g (given g (c.world_laws.ensures.invariant words g a)
    (c.world_laws.ensures.knowledge words g a) (c.world_laws.ensures.homes words g a)) loads
