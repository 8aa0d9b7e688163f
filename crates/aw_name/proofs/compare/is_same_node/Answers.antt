use Rattle.std.proofs.lemmas.Bool.Decides.{Decides-at}
use Rattle.aw_name.specs.SameNodes.{derived_node_Decides}
use Rattle.aw_name.proofs.compare.is_same_node.Goals as goal

pub returns : goal.returns
returns c = Decides-at c.eq.result _ c.eq.ensures (derived_node_Decides c.args.m.now c.args.n.now)
