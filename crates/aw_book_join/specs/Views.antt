-- Which tasks of a workspace are asked for.
use Rattle.std.specs.Prelude.{Bool, true, false, ◌&&◌, not, ◌||◌, Option, None, Some, nat_eq}
use Rattle.aw_term.specs.Names.{Node}
use Rattle.aw_term.specs.Configs.{State, Pending, Done}
use Rattle.aw_book_join.specs.declared.view.Case.{Case}
use Rattle.aw_book_join.specs.declared.view.View.{View}

-- the node is one of this case, or of any where no case is named
abbrev pub is_of : Option Case → Node → Bool
is_of None n = true
is_of (Some c) n = nat_eq c.sort n.start && nat_eq c.number n.case

-- no rule was taken yet
abbrev pub is_open : State → Bool
is_open Pending = true
is_open (Done rule args) = false

-- a task at this node, which stands so, is asked for
abbrev pub is_asked : View → Node → State → Bool
is_asked v n s = is_of v.case n && (not v.only_open || is_open s)
