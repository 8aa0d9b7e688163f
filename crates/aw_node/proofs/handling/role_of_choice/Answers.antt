use Rattle.aw_node.proofs.handling.role_of_choice.Goals as goal

pub returns-in-Start : goal.returns-in-Start
returns-in-Start c = rw c.in-Start.is (c.role_of_start.ensures c.in-Start.case)
