-- Messages whose names are all valid.
use Rattle.std.specs.Prelude.{ℕ, Bool, true, false, not, ◌&&◌, List, [], ◌∷◌, length, Option, None, Some, slice_get, nat_eq, nat_lt}
use Rattle.aw_term.specs.Names.{Ref}
use Rattle.aw_term.specs.Rules.{Grammar, sort_of}
use Rattle.aw_term.specs.WellFormed.{head_fits, takes_of}
use Rattle.aw_base.specs.ChoiceFits.{ref_ok}
use Rattle.aw_store.specs.Equations.{Body, Same, Is, Equation}
use Rattle.aw_apply.specs.Made.{Call}
use Rattle.aw_apply.specs.Messages.{Kind, Calls, Asks, Tells, Message}
use Rattle.aw_law_sites.specs.Homes.{home, parent, has_steps}

-- each is a valid reference
abbrev pub refs_ok : Grammar → List Ref → Bool
refs_ok g [] = true
refs_ok g (r ∷ rs) = ref_ok g r && refs_ok g rs

-- a valid reference, or a head with as many valid references as it has parts
abbrev pub body_ok : Grammar → Body → Bool
body_ok g (Same r) = ref_ok g r
body_ok g (Is h rs) = head_fits g.arities h (length rs) && refs_ok g rs

-- a valid reference with a valid body
abbrev pub equation_ok : Grammar → Equation → Bool
equation_ok g e = ref_ok g e.left && body_ok g e.body

-- each is a valid equation
abbrev pub equations_ok : Grammar → List Equation → Bool
equations_ok g [] = true
equations_ok g (e ∷ es) = equation_ok g e && equations_ok g es

-- a node of this sort inherits so many references
abbrev pub takes_as : Grammar → Option ℕ → List Ref → Bool
takes_as g None rs = false
takes_as g (Some s) rs = nat_eq (length rs) (takes_of (slice_get g.sorts s))

-- a valid node with valid references, as many as its sort inherits
abbrev pub call_ok : Grammar → Call → Bool
call_ok g c = takes_as g (sort_of g c.node) c.inherited && refs_ok g c.inherited

-- its names are valid, whatever role it is for
abbrev pub names_ok : Grammar → Kind → Bool
names_ok g (Calls c load) = call_ok g c && equations_ok g load
names_ok g (Asks r from) = ref_ok g r && nat_lt from g.roles
names_ok g (Tells e load) = equation_ok g e && equations_ok g load

-- a call of a child of another role, a question of another role
abbrev pub origin_ok : Grammar → ℕ → Kind → Bool
origin_ok g role (Calls c load) = has_steps c.node.steps && not (nat_eq (home g (parent c.node)) role)
origin_ok g role (Asks r from) = not (nat_eq from role)
origin_ok g role (Tells e load) = true

-- all names in a message to this role are valid
abbrev pub message_ok : Grammar → ℕ → Message → Bool
message_ok g role m = nat_lt m.to g.roles && (names_ok g m.kind && origin_ok g role m.kind)
