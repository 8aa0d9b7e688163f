use Rattle.std.proofs.lemmas.Bool.Decides.{same_from_decides}
use Rattle.aw_name.specs.SameNodes.{node_Decides}
use Rattle.aw_term.proofs.order.is_node.Goals as goal

pub returns : goal.returns
returns c = same_from_decides _ _ c.is_same_node.ensures (node_Decides _ _)
