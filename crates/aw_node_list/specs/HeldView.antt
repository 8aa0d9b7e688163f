-- The program's held nodes as plain ones.
use Rattle.std.specs.Prelude.{ℕ, List, [], map, Option, Some, None}
use Rattle.aw_term.specs.Rules.{Grammar, sort_of}
use Rattle.aw_term.specs.Configs.{State, Pending, Done}
use Rattle.aw_term.specs.Held as P
use Rattle.aw_term.specs.Views.{ground_of}
use Rattle.aw_choice.specs.declared.choice.Choice.{Choice}
use Rattle.aw_choice.specs.declared.choice.Choice.TheVariants.{Start, Develop}
use Rattle.aw_node_list.specs.declared.held.Held.{Held}

-- a node is pending exactly where no choice is noted; a noted choice is never a start
abbrev pub state_of : Option Choice → State
state_of None = Pending
state_of (Some (Start sort case)) = Done 0 []
state_of (Some (Develop node rule args)) = Done rule (map ground_of args)

-- the number of a sort, and 0 where there is none
-- (the held nodes of a workspace have valid names, and so each has one)
abbrev pub sort_or : Option ℕ → ℕ
sort_or None = 0
sort_or (Some s) = s

-- a held node, with the sort that the grammar gives its name
abbrev pub held_of : Grammar → Held → P.Held
held_of g h = record { node = h.node; sort = sort_or (sort_of g h.node); inherited = h.inherited; state = state_of h.done }

-- held nodes, each as a plain one
abbrev pub all_of : Grammar → List Held → List P.Held
all_of g hs = map (held_of g) hs
