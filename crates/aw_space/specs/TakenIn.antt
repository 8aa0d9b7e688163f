-- What is taken in with a call and equations, and how many guards are tested.
use Rattle.std.specs.Prelude.{ℕ, ◌<◌, ◌+◌, List, Option, Some, None}
use Rattle.aw_term.specs.Names.{Ref}
use Rattle.aw_term.specs.Rules.{Grammar, sort_of}
use Rattle.aw_store.specs.Equations.{Equation, Map}
use Rattle.aw_node_list.specs.declared.held.Held.{Held}
use Rattle.aw_node_list.specs.HeldView.{sort_or, all_of}
use Rattle.aw_node_list.specs.Row.{Row}
use Rattle.aw_standing.specs.declared.kept.Kept.{Kept}
use Rattle.aw_standing.specs.KeptStates.{HasRoom}
use Rattle.aw_space.specs.Costs.{rules_of}
use Rattle.aw_space.specs.Missing.{missing_node, with_node}
use Rattle.aw_space.specs.Openings.{IsOpenable, IsReady, tests_of}
use Rattle.aw_space.specs.Waking.{turns_cost}
use Rattle.aw_space.specs.declared.opening.Opening.{Opening}
use Rattle.aw_space.specs.declared.placing.Placing.{Placing}

-- the node, if there is one, is open with as many references as its sort takes
abbrev pub IsOpenableIf : Grammar → Option Held → Type 0
IsOpenableIf g None = Unit {0}
IsOpenableIf g (Some h) = IsOpenable g h

-- what is to be kept of the node is ready, if there is one, and there is room for it
abbrev pub IsReadyIf : Grammar → List Ref → Row → Kept → Option Opening → Type 0
IsReadyIf g names held kept None = Unit {0}
IsReadyIf g names held kept (Some o) = IsReady g names o × (0 < held.room) × HasRoom kept 1 (tests_of o)

-- how many rules are tested where it is opened
abbrev pub tests_if : Option Opening → ℕ
tests_if None = 0
tests_if (Some o) = tests_of o

-- the rules of its sort
abbrev pub rules_if : Grammar → Option Held → ℕ
rules_if g None = 0
rules_if g (Some h) = rules_of g (sort_or (sort_of g h.node))

-- the guards of a node, if there is one, and those that wait for each of these equations in turn
abbrev pub taken_cost : Grammar → Option Held → List Held → Map → List Equation → ℕ
taken_cost g new hs k es = rules_if g new + turns_cost g (all_of g (with_node new hs)) k es

-- the same of a call, if there is one, whose node may be held
abbrev pub call_taken_cost : Grammar → Option Placing → List Held → Map → List Equation → ℕ
call_taken_cost g call hs k es = taken_cost g (missing_node call hs) hs k es
