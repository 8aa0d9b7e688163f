-- Children of a taken rule that are of this role, as open nodes.
use Rattle.std.specs.Prelude.{ℕ, Bool, true, ◌&&◌, List, [], ◌∷◌, map, filter, None, is_some}
use Rattle.aw_term.specs.Rules.{Grammar, sort_of}
use Rattle.aw_apply.specs.declared.making.MadeChild.{MadeChild}
use Rattle.aw_node_list.specs.declared.held.Held.{Held}
use Rattle.aw_space.specs.Spaces.{is_home}

-- a child that nothing has developed
abbrev pub open_child : MadeChild → Held
open_child c = record { node = c.node; inherited = c.inherited; done = None }

-- those of this role, in their order
abbrev pub own_children : Grammar → ℕ → List MadeChild → List Held
own_children g role cs = map open_child (filter (λ c. is_home g role c.node) cs)

-- each has a valid name
abbrev pub are_named : Grammar → List MadeChild → Bool
are_named g [] = true
are_named g (c ∷ cs) = is_some (sort_of g c.node) && are_named g cs
