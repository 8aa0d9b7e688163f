-- Nodes that are to be held, each with what is kept of it.
use Rattle.std.specs.Prelude.{◌≡◌, ◌≤◌, ℕ, true, All, List, [], None, length, sum_by, vec_len}
use Rattle.aw_term.specs.Names.{Ref, root}
use Rattle.aw_term.specs.Rules.{Grammar, sort_of}
use Rattle.aw_node_list.specs.Row.{Row}
use Rattle.aw_node_list.specs.declared.held.Held.{Held}
use Rattle.aw_law_sites.specs.ValidNames.{takes_as}
use Rattle.aw_standing.specs.KeptStates.{HasRoom}
use Rattle.aw_standing.specs.Records.{IsFit, IsOf}
use Rattle.aw_standing.specs.Tested.{IsFresh}
use Rattle.aw_standing.specs.declared.kept.Kept.{Kept}
use Rattle.aw_space.specs.declared.opening.Opening.{Opening}

-- The node is open and goes by its name; what is kept is of this node, and none of its rules waits yet.
pub record IsReady (g : Grammar) (names : List Ref) (o : Opening) : Type 0 where
  pub done : o.held.done ≡ None
  pub of_node : IsOf g names o.held o.entry
  pub fit : IsFit g names o.entry
  pub fresh : IsFresh o.entry

-- the node itself
abbrev pub held_in : Opening → Held
held_in o = o.held

-- how many rules are tested where it is opened
abbrev pub tests_of : Opening → ℕ
tests_of o = vec_len o.entry.marks

-- the same of several
abbrev pub all_tests : List Opening → ℕ
all_tests os = sum_by tests_of os

-- an open node with as many references as its sort takes
pub record IsOpenable (g : Grammar) (h : Held) : Type 0 where
  pub takes : takes_as g (sort_of g h.node) h.inherited ≡ true
  pub done : h.done ≡ None

-- What is to be kept of each of these nodes is ready, and there is room for all of them.
pub record AreReady (g : Grammar) (names : List Ref) (held : Row) (kept : Kept) (os : List Opening) : Type 0 where
  pub ready : All (IsReady g names) os
  pub place : length os ≤ held.room
  pub room : HasRoom kept (length os) (all_tests os)

-- the node of a new case
abbrev pub opened : ℕ → ℕ → Held
opened s l = record { node = root s l; inherited = []; done = None }
