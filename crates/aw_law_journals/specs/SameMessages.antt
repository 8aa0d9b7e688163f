-- Whether two messages are one.
use Rattle.std.specs.Prelude.{ℕ, Bool, true, false, ◌&&◌, List, [], ◌∷◌, Option, None, Some, nat_eq, if◌then◌else◌, suc}
use Rattle.aw_term.specs.Names.{node_eq, ref_eq}
use Rattle.aw_store.specs.Equations.{Equation}
use Rattle.aw_apply.specs.Made.{Call}
use Rattle.aw_apply.specs.Messages.{Kind, Calls, Asks, Tells, Message}
use Rattle.aw_law_sites.specs.Receiving.{refs_eq, body_eq}

-- one equation
abbrev pub equation_eq : Equation → Equation → Bool
equation_eq e f = ref_eq e.left f.left && body_eq e.body f.body

-- the same equations in the same order
abbrev pub load_eq : List Equation → List Equation → Bool
load_eq [] [] = true
load_eq (e ∷ es) (f ∷ fs) = equation_eq e f && load_eq es fs
load_eq _ _ = false

-- one child
abbrev pub call_eq : Call → Call → Bool
call_eq c d = node_eq c.node d.node && (nat_eq c.sort d.sort && refs_eq c.inherited d.inherited)

-- the same is said, with the same load
abbrev pub kind_eq : Kind → Kind → Bool
kind_eq (Calls c load) (Calls d other) = call_eq c d && load_eq load other
kind_eq (Asks r from) (Asks s role) = ref_eq r s && nat_eq from role
kind_eq (Tells e load) (Tells f other) = equation_eq e f && load_eq load other
kind_eq _ _ = false

-- and it is for the same role
abbrev pub message_eq : Message → Message → Bool
message_eq m n = nat_eq m.to n.to && kind_eq m.kind n.kind

-- the number with which a message was sent, where these messages were sent with numbers from i on
abbrev pub number_of : ℕ → Message → List Message → Option ℕ
number_of i m [] = None
number_of i m (n ∷ ms) = if message_eq m n then Some i else number_of (suc i) m ms
