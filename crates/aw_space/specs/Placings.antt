-- Which calls and equations may come, and a called node as it is held.
use Rattle.std.specs.Prelude.{◌≡◌, ℕ, true, false, List, Option, Some, None, option_map}
use Rattle.aw_term.specs.Names.{Node, Ref}
use Rattle.aw_term.specs.Rules.{Grammar}
use Rattle.aw_store.specs.Equations.{Equation}
use Rattle.aw_apply.specs.Made.{Call}
use Rattle.aw_node_list.specs.declared.held.Held as program
use Rattle.aw_law_sites.specs.Homes.{parent, has_steps}
use Rattle.aw_law_sites.specs.Receiving.{none_mine}
use Rattle.aw_law_sites.specs.ValidNames.{call_ok, equations_ok}
use Rattle.aw_space.specs.declared.placing.Placing.{Placing}
use Rattle.aw_space.specs.Spaces.{is_home, call_of}

-- a valid call of a child of this role, whose parent is another role's
pub record MayBeCalled (g : Grammar) (role : ℕ) (c : Call) : Type 0 where
  pub ok : call_ok g c ≡ true
  pub here : is_home g role c.node ≡ true
  pub child : has_steps c.node.steps ≡ true
  pub parent : is_home g role (parent c.node) ≡ false

-- the call, if there is one
abbrev pub MayBeCalledIf : Grammar → ℕ → Option Call → Type 0
MayBeCalledIf g role None = Unit {0}
MayBeCalledIf g role (Some c) = MayBeCalled g role c

-- valid equations, each of another role
pub record MayBeLearnt (g : Grammar) (role : ℕ) (es : List Equation) : Type 0 where
  pub ok : equations_ok g es ≡ true
  pub others : none_mine g role es ≡ true

-- the call of a placing
abbrev pub placed_call : Grammar → Placing → Call
placed_call g p = call_of g p.node p.inherited

-- the call of a node that may be there
abbrev pub called_by : Grammar → Option Placing → Option Call
called_by g entry = option_map (placed_call g) entry

-- a called node, open
abbrev pub called_open : Node → List Ref → program.Held
called_open n rs = record { node = n; inherited = rs; done = None }
