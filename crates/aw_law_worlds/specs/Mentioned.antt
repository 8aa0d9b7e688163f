-- References that are mentioned, and references that choices created.
use Rattle.std.specs.Prelude.{◌≡◌, ℕ, ◌<◌, ◌≤◌, true, List, ◌⊎◌}
use Rattle.aw_list.specs.Members.{Member}
use Rattle.aw_term.specs.Trees.{Never}
use Rattle.aw_term.specs.Names.{Slot, Result, Part, Ref, result}
use Rattle.aw_term.specs.Rules.{Grammar}
use Rattle.aw_term.specs.Held.{Held}
use Rattle.aw_accept.specs.Acyclic.{gives}
use Rattle.aw_store.specs.Equations.{Equation, Map, mentions}
use Rattle.aw_law_sites.specs.Joint.{Joint}
use Rattle.aw_law_sites.specs.Homes.{has_steps}

-- it stands in the body of an equation, or a node inherited it
abbrev pub IsMentioned : Ref → Map → List Held → Type 0
IsMentioned r k hs = ((e : Equation) × Member e k × Member r (mentions e.body)) ⊎ ((h : Held) × Member h hs × Member r h.inherited)

-- a part, and no result
abbrev pub IsPartSlot : Slot → Type 0
IsPartSlot (Part k) = Unit {0}
IsPartSlot (Result j) = Never

-- it is a part that has an equation, or a result of a node that is a child
abbrev pub IsCreated : Grammar → Joint → Ref → Type 0
IsCreated g x r =
    ((e : Equation) × Member e x.equations × (e.left ≡ r) × IsPartSlot r.slot)
    ⊎ ((h : Held) × (j : ℕ) × Member h x.held × (has_steps h.node.steps ≡ true) × (0 < j) × (j ≤ gives g h.sort) × (r ≡ result h.node j))

-- each mentioned reference was created
abbrev pub IsRooted : Grammar → Joint → Type 0
IsRooted g x = (r : Ref) → IsMentioned r x.equations x.held → IsCreated g x r
