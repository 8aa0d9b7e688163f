-- What the sessions of the program show.
use Rattle.std.specs.Prelude.{◌≡◌, ℕ, ◌+◌, ◌≤◌, List, [], ◌∷◌, ◌++◌, length, take, drop, map, reverse, Option, None, Some, is_some, option_to_list, option_map, slice_get}
use Rattle.aw_out.specs.Wires.{Session}
use Rattle.aw_net.specs.MemWires.{Sessions}
use Rattle.aw_net.specs.declared.passed.Passed.{Passed}

-- a session, where these are the bytes that were written in all of them
abbrev pub session_of : List ℕ → Passed → Session
session_of bytes p =
    record { role = p.role; dialed = p.dialed; read = take p.at p.bytes; left = drop p.at p.bytes; written = drop p.from (take p.to bytes); failed = p.failed }

-- the sessions that ended, and the open one
abbrev pub sessions_of : List ℕ → List Passed → Option Passed → List Session
sessions_of bytes ended current = map (session_of bytes) (ended ++ option_to_list current)

-- all sessions, where those to come stand in the other order
abbrev pub shown : List (List ℕ) → Option Passed → List Passed → List ℕ → ℕ → ℕ → Sessions
shown coming current ended bytes room most =
    record { passed = sessions_of bytes ended current; coming = reverse coming; is_open = is_some current; room = room; most = most }

-- its reads stand within its bytes, and its writes within all that was written
pub record IsWithin (bytes : List ℕ) (p : Passed) : Type 0 where
  pub read : p.at ≤ length p.bytes
  pub order : p.from ≤ p.to
  pub written : p.to ≤ length bytes

-- the open session wrote last
abbrev pub IsLast : List ℕ → Option Passed → Type 0
IsLast bytes None = Unit {0}
IsLast bytes (Some p) = IsWithin bytes p × (p.to ≡ length bytes)

-- one where a session is open
abbrev pub opened_now : Option Passed → ℕ
opened_now None = 0
opened_now (Some p) = 1

-- each of them stands within
abbrev pub AreWithin : List ℕ → List Passed → Type 0
AreWithin bytes [] = Unit {0}
AreWithin bytes (p ∷ ps) = IsWithin bytes p × AreWithin bytes ps

-- the sessions stand within what was written, and there is memory for as many bytes and sessions as there is room for
pub record IsRoomy (ended : List Passed) (current : Option Passed) (bytes : List ℕ) (for_sessions for_bytes room most : ℕ) : Type 0 where
  pub within : AreWithin bytes ended
  pub last : IsLast bytes current
  pub sessions : length ended + opened_now current + most ≤ for_sessions
  pub writes : length bytes + room ≤ for_bytes

-- what was written in the session of this number
abbrev pub written_in : List Session → ℕ → Option (List ℕ)
written_in passed number = option_map (λ (s : Session). s.written) (slice_get passed number)
