-- A called node that is not held yet.
use Rattle.std.specs.Prelude.{ℕ, List, [], Option, Some, None}
use Rattle.aw_term.specs.Names.{Ref}
use Rattle.aw_node_list.specs.declared.held.Held.{Held}
use Rattle.aw_node_list.specs.InOrder.{place_in, insert_in, Lacks}
use Rattle.aw_space.specs.declared.placing.Placing.{Placing}
use Rattle.aw_space.specs.Placings.{called_open}

-- the called node, open, where it has no place among the held ones
abbrev pub missing_on : Option ℕ → Placing → Option Held
missing_on None p = Some (called_open p.node p.inherited)
missing_on (Some i) p = None

-- the node of a call, if there is one, where it is not held
abbrev pub missing_node : Option Placing → List Held → Option Held
missing_node None hs = None
missing_node (Some p) hs = missing_on (place_in p.node hs) p

-- a node, if there is one, among the held ones
abbrev pub with_node : Option Held → List Held → List Held
with_node None hs = hs
with_node (Some h) hs = insert_in h hs

-- the references that it inherits
abbrev pub inherited_by : Option Held → List Ref
inherited_by None = []
inherited_by (Some h) = h.inherited

-- a node, if there is one, is not held
abbrev pub LacksIf : Option Held → List Held → Type 0
LacksIf None hs = Unit {0}
LacksIf (Some h) hs = Lacks h.node hs
