-- The sessions of a wire over desks. What is left to read in each is what was not read yet of its replies.
use Rattle.std.specs.Prelude.{ℕ, List, [], ◌++◌, Bool, true, false, Option, None, Some, option_to_list, option_map, slice_get}
use Rattle.aw_out.specs.Edge.{given}
use Rattle.aw_out.specs.Reads.{left_after}
use Rattle.aw_out.specs.Wires.{Session, Content, fresh, after_read}
use Rattle.aw_msg.specs.Streams.{Stream}
use Rattle.aw_out.specs.declared.edge.Dialed.{Dialed}
use Rattle.aw_out.specs.declared.edge.Dialed.TheVariants.{Opened, Failed}
use Rattle.aw_out.specs.declared.edge.Got.{Got}

-- after a read with this answer
abbrev pub has_read : Got → Session → Session
has_read answer s = after_read (given answer s.left) (left_after answer s.left) s

-- the sessions that are over, the last one, and whether it is open
pub record Calls : Type 0 where
  pub over : List Session
  pub last : Option Session
  pub is_open : Bool

-- no session yet
abbrev pub no_calls : Calls
no_calls = record { over = []; last = None; is_open = false }

-- all of them, the last one at the end
abbrev pub passed_in : Calls → List Session
passed_in cs = cs.over ++ option_to_list cs.last

-- what is left to read in the last one
abbrev pub left_in : Option Session → List ℕ
left_in None = []
left_in (Some s) = s.left

-- the role of the last one
abbrev pub role_in : Option Session → ℕ
role_in None = 0
role_in (Some s) = s.role

-- what is told of them; no session comes by itself
abbrev pub content_of : Calls → Content
content_of cs = record { passed = passed_in cs; coming = 0 }

-- no session is open any more
abbrev pub closed : Calls → Calls
closed cs = record cs { is_open = false }

-- a session with this role is open
abbrev pub opened : ℕ → Calls → Calls
opened role cs = record { over = cs.over ++ option_to_list cs.last; last = Some (fresh role true []); is_open = true }

-- the last session is changed
abbrev pub changed : (Session → Session) → Calls → Calls
changed change cs = record cs { last = option_map change cs.last }

-- what was written in the session of this number
abbrev pub written_in : List Session → ℕ → Option (List ℕ)
written_in passed number = option_map (λ (s : Session). s.written) (slice_get passed number)

-- a session that was opened begins a stream of its own
abbrev pub reader_after : Dialed → Stream → Stream
reader_after Opened kept = record { bytes = []; failed = false }
reader_after Failed kept = kept
