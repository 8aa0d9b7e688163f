use Rattle.aw_node.proofs.Lasting.{node-stays}
use Rattle.aw_node.proofs.Runs.{in_turn, one_world}
use Rattle.aw_node.proofs.law.served_nodes.Goals as goal

pub returns-clause-turn : goal.returns-clause-turn
returns-clause-turn c = in_turn

pub returns-clause-world : goal.returns-clause-world
returns-clause-world c = λ words r accepted. one_world r (c.node_laws.ensures.served words r.grammar accepted)

pub returns-clause-stays : goal.returns-clause-stays
returns-clause-stays c = λ r. node-stays r (c.site_laws.ensures.stays r.grammar)
