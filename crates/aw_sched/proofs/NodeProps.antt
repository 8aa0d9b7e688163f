-- Nodes, and what reading a text finds, are sets.
use Rattle.std.proofs.Common.{◌≡◌, List}
use Rattle.std.proofs.Props.{props}
use mathlib.Core.List.{is_set}
use mathlib.Core.Sum.{⊎_set}
use Rattle.aw_base.specs.NodeNames.{NodeRead, Named}
use Rattle.aw_term.specs.Names.{Step, Node}

step_set : IsSet Step
step_set = hlevel props

steps_set : IsSet (List Step)
steps_set = is_set step_set

node_set : IsSet Node
node_set = hlevel (props, steps_set)

read_set : IsSet NodeRead
read_set = hlevel (props, node_set, ⊎_set)

pub named_prop : (read : NodeRead) (n : Node) → IsProp (read ≡ Named n)
named_prop read n = read_set read (Named n)
