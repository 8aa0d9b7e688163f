-- What is heard in the bytes of a reply. The kind is judged when its byte is there, the length when its four bytes are there, and the
-- payload when it is whole.
use Rattle.std.specs.Prelude.{◌≡◌, ℕ, ◌+◌, ◌<◌, ◌≤◌, ◌==◌, Bool, ◌&&◌, ◌||◌, nat_le, nat_lt, List, [], ◌∷◌, length, take, drop, Option, None, Some, Result, Ok, Err, if◌then◌else◌}
use Rattle.std.specs.Int.{w32}
use Rattle.aw_term.specs.Rules.{Grammar}
use Rattle.aw_codec.specs.Reading.{Fault, Short, Bad, Reader, ◌>>=◌, byte, number, such_that}
use Rattle.aw_apply.specs.Messages as P
use Rattle.aw_msg.specs.Frames.{whole}
use Rattle.aw_msg.specs.Messages.{message}
use Rattle.aw_msg.specs.MessageView.{message_of}
use Rattle.aw_msg.specs.declared.message.Message.{Message}
use Rattle.aw_law_nodes.specs.Couriers.{Heard, Pushed, Gave, NoMore, behind}
use Rattle.aw_law_nodes.specs.Nodes as N
use Rattle.aw_courier.specs.Frames.{spelled_frame}
use Rattle.aw_courier.specs.declared.replies.Request.{Request}
use Rattle.aw_courier.specs.declared.replies.Request.TheVariants.{Push, Pull}
use Rattle.aw_courier.specs.declared.replies.Brought.{Brought}
use Rattle.aw_courier.specs.declared.replies.Brought.TheVariants as brought

-- to a push one of the kinds 1 to 5, to a pull a message or the number of them
abbrev pub may_have : Request → ℕ → Bool
may_have Push kind = nat_le 1 kind && nat_le kind 5
may_have Pull kind = kind == 7 || kind == 10

-- a text of kind 3 and a message of kind 7 have at most 1048576 bytes, a number of kind 10 has eight, and the others have no payload
abbrev pub fits_length : ℕ → ℕ → Bool
fits_length kind n = if kind == 3 || kind == 7 then nat_le n 1048576 else if kind == 10 then n == 8 else n == 0

-- a message for one of the roles
abbrev pub gave : Grammar → Option Message → Option Heard
gave g None = None
gave g (Some m) = if nat_lt m.to g.roles then Some (Gave (message_of g m)) else None

-- what is heard in a payload of this kind
abbrev pub heard_in : Grammar → ℕ → List ℕ → Option Heard
heard_in g kind bytes =
    if kind == 7 then gave g (whole message bytes) else if kind == 10 then Some NoMore else Some (Pushed kind)

-- a payload that is none breaks its rule as a whole
abbrev pub known : ℕ → Option Heard → List ℕ → Result (Heard × List ℕ) Fault
known left None rest = Err (Bad left)
known left (Some h) rest = Ok (h, rest)

-- a payload of this kind and of n bytes, once all of them are there
abbrev pub payload_at : Grammar → ℕ → ℕ → Reader Heard
payload_at g kind n bytes = if nat_lt (length bytes) n then Err Short else known (length bytes) (heard_in g kind (take n bytes)) (drop n bytes)

-- the reply to this request at the front of some bytes
unfoldable pub reply : Grammar → Request → Reader Heard
reply g request bytes =
    such_that (may_have request) byte bytes >>= λ kind. such_that (fits_length kind.0) (number w32) kind.1 >>= λ n. payload_at g kind.0 n.0 n.1

-- no reply begins so
abbrev pub IsNone : Result (Heard × List ℕ) Fault → Type 0
IsNone read = (left : ℕ) × (read ≡ Err (Bad left))

-- what is asked in a frame
abbrev pub request_of : N.Frame → Request
request_of (N.Push m) = Push
request_of (N.Choose c) = Pull
request_of (N.Pull place) = Pull
request_of (N.Listed place) = Pull

-- ---- as the bytes come

-- five bytes and the payload, where that length fits the kind
abbrev pub size_with : ℕ → Result (ℕ × List ℕ) Fault → Option ℕ
size_with kind (Err e) = Some 5
size_with kind (Ok n) = if fits_length kind n.0 then Some (5 + n.0) else None

-- how many bytes a reply has that begins so, as far as that is known; None where no reply begins so
abbrev pub size_from : Request → List ℕ → Option ℕ
size_from request [] = Some 5
size_from request (kind ∷ rest) = if may_have request kind then size_with kind (number w32 rest) else None

-- the bytes are all of a reply, as far as its length tells
abbrev pub IsSized : Request → List ℕ → Type 0
IsSized request bytes = size_from request bytes ≡ Some (length bytes)

-- What a pull brought: a message for a role, which is pushed in the bytes in which it came but for the kind; no more messages; or no reply.
abbrev pub Brings : Grammar → List ℕ → Brought → Type 0
Brings g bytes (brought.Message to) =
    (m : P.Message) × (reply g Pull bytes ≡ Ok (Gave m, [])) × (m.to ≡ to) × (to < g.roles) × (spelled_frame (N.Push m) ≡ 1 ∷ behind bytes)
Brings g bytes brought.Nothing = reply g Pull bytes ≡ Ok (NoMore, [])
Brings g bytes brought.Unknown = IsNone (reply g Pull bytes)

-- a message is for one of so many roles
abbrev pub NamesRole : ℕ → Brought → Type 0
NamesRole roles (brought.Message to) = to < roles
NamesRole roles brought.Nothing = Unit {0}
NamesRole roles brought.Unknown = Unit {0}

-- a message for this role, with these bytes behind it: it is one of so many roles and no byte is left; or that is not so
abbrev pub IsAddressed : ℕ → List ℕ → ℕ → Brought → Type 0
IsAddressed to rest roles (brought.Message found) = (found ≡ to) × (rest ≡ []) × (to < roles)
IsAddressed to rest roles brought.Nothing = ⊥
IsAddressed to rest roles brought.Unknown = rest ≡ [] → roles ≤ to
