-- How many messages a world sends at most.
use Rattle.std.specs.Prelude.{ℕ, ◌+◌, ◌*◌, Bool, not, ◌&&◌, List, [], ◌∷◌, ◌++◌, map, length, Option, None, Some, nat_eq, filter, if◌then◌else◌}
use Rattle.aw_term.specs.Names.{Slot, Result, Part, Ref, result}
use Rattle.aw_term.specs.Rules.{Grammar, upto}
use Rattle.aw_term.specs.Choices.{Choice}
use Rattle.aw_term.specs.Held.{Held}
use Rattle.aw_accept.specs.Acyclic.{gives}
use Rattle.aw_store.specs.Equations.{Map}
use Rattle.aw_law_sites.specs.Joint.{Joint, empty_joint, joint_run}
use Rattle.aw_law_sites.specs.Homes.{home, parent, has_steps}
use Rattle.aw_law_sites.specs.Worlds.{World, settle}

-- a part stands in front of these, and a result does not
abbrev pub part_on : Slot → Ref → List Ref → List Ref
part_on (Part k) r rs = r ∷ rs
part_on (Result j) r rs = rs

-- the parts that have equations
abbrev pub part_lefts : Map → List Ref
part_lefts [] = []
part_lefts (e ∷ es) = part_on e.left.slot e.left (part_lefts es)

-- the results of the nodes that are children
abbrev pub child_results : Grammar → List Held → List Ref
child_results g [] = []
child_results g (h ∷ hs) = (if has_steps h.node.steps then map (result h.node) (upto 1 (gives g h.sort)) else []) ++ child_results g hs

-- the references that choices created: parts, and results of children
abbrev pub created : Grammar → Joint → List Ref
created g x = part_lefts x.equations ++ child_results g x.held

-- a child of another role than its parent's
abbrev pub is_called : Grammar → Held → Bool
is_called g h = has_steps h.node.steps && not (nat_eq (home g (parent h.node)) (home g h.node))

-- one call for each called child, and for each created reference and each role one question and one answer
abbrev pub bound : Grammar → Joint → ℕ
bound g x = length (filter (is_called g) x.held) + 2 * (length (created g x) * g.roles)

-- no bound where the choices lead nowhere
abbrev pub bound_on : Grammar → Option Joint → ℕ
bound_on g None = 0
bound_on g (Some x) = bound g x

-- the bound of the nodes and equations that these choices lead to
abbrev pub bound_of : Grammar → List Choice → ℕ
bound_of g cs = bound_on g (joint_run g empty_joint cs)

-- a world is settled: as many times as there may be messages, the first undelivered one is delivered
abbrev pub settled : Grammar → World → World
settled g w = settle (bound_of g w.taken) g w
