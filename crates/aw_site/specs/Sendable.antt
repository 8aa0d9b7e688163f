-- What a site sends: messages whose names are valid, with few valid equations as their loads, and names of few steps.
use Rattle.std.specs.Prelude.{Bool, true, ◌&&◌, List, [], ◌∷◌, length, nat_le}
use Rattle.aw_term.specs.Names.{Node, Ref}
use Rattle.aw_term.specs.Rules.{Grammar}
use Rattle.aw_term.specs.Limits.{most_of_load}
use Rattle.aw_name.specs.Limits.{most_steps}
use Rattle.aw_base.specs.ChoiceFits.{ref_ok}
use Rattle.aw_store.specs.Equations.{Body, Same, Is, Equation}
use Rattle.aw_apply.specs.Messages as P
use Rattle.aw_apply.specs.Messages.{Kind, Calls, Asks, Tells}
use Rattle.aw_msg.specs.declared.message.Message.{Message}
use Rattle.aw_msg.specs.MessageView.{plain_kind}
use Rattle.aw_law_sites.specs.ValidNames.{call_ok, equation_ok, equations_ok}

-- ---- valid names

-- few valid equations
abbrev pub load_ok : Grammar → List Equation → Bool
load_ok g es = nat_le (length es) most_of_load && equations_ok g es

-- a valid call, a question for a valid reference, or a valid equation
abbrev pub may_send : Grammar → Kind → Bool
may_send g (Calls c load) = call_ok g c && load_ok g load
may_send g (Asks r from) = ref_ok g r
may_send g (Tells e load) = equation_ok g e && load_ok g load

-- each of these messages says so
abbrev pub all_sendable : Grammar → List P.Message → Bool
all_sendable g [] = true
all_sendable g (m ∷ ms) = may_send g m.kind && all_sendable g ms

-- ---- short names

-- a name of few steps
abbrev pub is_short : Node → Bool
is_short n = nat_le (length n.steps) most_steps

-- each of these references has a short name
abbrev pub short_refs : List Ref → Bool
short_refs [] = true
short_refs (r ∷ rs) = is_short r.node && short_refs rs

-- all names in a body are short
abbrev pub short_body : Body → Bool
short_body (Same r) = is_short r.node
short_body (Is h rs) = short_refs rs

-- all names in an equation are short
abbrev pub short_equation : Equation → Bool
short_equation e = is_short e.left.node && short_body e.body

-- all names in these equations are short
abbrev pub short_equations : List Equation → Bool
short_equations [] = true
short_equations (e ∷ es) = short_equation e && short_equations es

-- all names in what a message says are short
abbrev pub short_kind : Kind → Bool
short_kind (Calls c load) = is_short c.node && (short_refs c.inherited && short_equations load)
short_kind (Asks r from) = is_short r.node
short_kind (Tells e load) = short_equation e && short_equations load

-- all names in these messages of the program are short
abbrev pub all_short : List Message → Bool
all_short [] = true
all_short (m ∷ ms) = short_kind (plain_kind m.kind) && all_short ms
