-- Wires in memory, which move pieces and fail at the calls that they are told to.
use Rattle.std.specs.Prelude.{ℕ, zero, suc, ◌-◌, List, [], ◌∷◌, ◌++◌, length, min, take, Bool, true, false, ◌||◌, nat_eq, nat_lt, if◌then◌else◌}
use Rattle.aw_out.specs.Causes.{one_more}
use Rattle.aw_out.specs.Memory.{piece_at, is_named}
use Rattle.aw_out.specs.Reads.{answer_of, left_after}
use Rattle.aw_out.specs.Wires.{Session, Content, fresh, with_last, last_left, after_read, after_write, after_fault}
use Rattle.aw_out.specs.declared.edge.Arrival.{Arrival}
use Rattle.aw_out.specs.declared.edge.Arrival.TheVariants as arrival
use Rattle.aw_out.specs.declared.edge.Dialed.{Dialed}
use Rattle.aw_out.specs.declared.edge.Dialed.TheVariants as dialed
use Rattle.aw_out.specs.declared.edge.Got.{Got}
use Rattle.aw_out.specs.declared.edge.Got.TheVariants as got
use Rattle.aw_out.specs.declared.edge.Put.{Put}
use Rattle.aw_out.specs.declared.edge.Put.TheVariants as put

-- The sessions of a wire: those so far, those to come with their bytes, whether one is open, and for how many written bytes and how many further
-- sessions there is room.
pub record Sessions : Type 0 where
  pub passed : List Session
  pub coming : List (List ℕ)
  pub is_open : Bool
  pub room : ℕ
  pub most : ℕ

-- The most that each read or write moves, the calls that fail, and how many calls, reads and writes, faults and failed openings there were.
pub record Script : Type 0 where
  pub pieces : List ℕ
  pub fails : List ℕ
  pub calls : ℕ
  pub moves : ℕ
  pub faults : ℕ
  pub openings : ℕ

-- what a wire in memory has
pub record Wired : Type 0 where
  pub sessions : Sessions
  pub script : Script

-- a wire of which no call was made
abbrev pub new_wire : List (List ℕ) → List ℕ → List ℕ → ℕ → ℕ → Wired
new_wire sessions pieces fails room most =
    record {
      sessions = record { passed = []; coming = sessions; is_open = false; room = room; most = most };
      script = record { pieces = pieces; fails = fails; calls = 0; moves = 0; faults = 0; openings = 0 };
    }

-- what it tells
abbrev pub content_of : Sessions → Content
content_of s = record { passed = s.passed; coming = length s.coming }

-- ---- the script

-- whether the next call is one that fails
abbrev pub is_failing : Script → Bool
is_failing s = is_named s.fails s.calls

-- the most that the next read or write moves
abbrev pub next_piece : Script → ℕ
next_piece s = piece_at s.pieces s.moves

-- a call that opens was made
abbrev pub called : Script → Script
called s = record s { calls = one_more s.calls }

-- a read or a write was made
abbrev pub moved : Script → Script
moved s = record s { calls = one_more s.calls; moves = one_more s.moves }

-- a read or a write failed
abbrev pub failed : Script → Script
failed s = record s { faults = one_more s.faults }

-- a call that opens failed
abbrev pub failed_opening : Script → Script
failed_opening s = record s { faults = one_more s.faults; openings = one_more s.openings }

-- ---- opening

-- the session before has ended
abbrev pub closed : Sessions → Sessions
closed s = record s { is_open = false }

-- the first of some sessions, and after the last one a session with nothing to read
abbrev pub next_of : List (List ℕ) → List ℕ
next_of [] = []
next_of (bytes ∷ later) = bytes

-- those behind it
abbrev pub later_of : List (List ℕ) → List (List ℕ)
later_of [] = []
later_of (bytes ∷ later) = later

-- the next session is open
abbrev pub opened : ℕ → Bool → Sessions → Sessions
opened role dialed s = record s {
  passed = s.passed ++ fresh role dialed (next_of s.coming) ∷ [];
  coming = later_of s.coming;
  is_open = true;
  most = s.most - 1;
}

-- what waiting answers where no call is told to fail: none comes any more, or there is room for one or not
abbrev pub arrives : List (List ℕ) → ℕ → Arrival
arrives [] most = arrival.End
arrives (bytes ∷ later) zero = arrival.Failed
arrives (bytes ∷ later) (suc most) = arrival.Session

-- what waiting for the next session answers
abbrev pub arrival_of : Wired → Arrival
arrival_of w = if is_failing w.script then arrival.Failed else arrives w.sessions.coming w.sessions.most

-- the sessions after that answer
abbrev pub sessions_after_arrival : ℕ → Arrival → Sessions → Sessions
sessions_after_arrival role arrival.Session s = opened role false s
sessions_after_arrival role arrival.End s = closed s
sessions_after_arrival role arrival.Failed s = closed s

-- the script after that answer
abbrev pub script_after_arrival : Arrival → Script → Script
script_after_arrival arrival.Session s = called s
script_after_arrival arrival.End s = called s
script_after_arrival arrival.Failed s = failed_opening (called s)

-- the wire after that answer
abbrev pub after_arrival : ℕ → Arrival → Wired → Wired
after_arrival role answer w = record { sessions = sessions_after_arrival role answer w.sessions; script = script_after_arrival answer w.script }

-- what dialing answers
abbrev pub dialed_of : Wired → Dialed
dialed_of w = if is_failing w.script || nat_eq w.sessions.most 0 then dialed.Failed else dialed.Opened

-- the wire after dialing with that answer
abbrev pub after_dialing : ℕ → Dialed → Wired → Wired
after_dialing role dialed.Opened w = record { sessions = opened role true w.sessions; script = called w.script }
after_dialing role dialed.Failed w = record { sessions = closed w.sessions; script = failed_opening (called w.script) }

-- ---- reading and writing

-- what is left to read in the last session
abbrev pub left_in : Sessions → List ℕ
left_in s = last_left s.passed

-- what a read into a buffer of so many bytes answers
abbrev pub read_of : ℕ → Wired → Got
read_of room w = if is_failing w.script then got.Failed else answer_of (left_in w.sessions) (min room (next_piece w.script))

-- the sessions after a read that moved these bytes and left these
abbrev pub with_read : List ℕ → List ℕ → Sessions → Sessions
with_read bytes left s = record s { passed = with_last (after_read bytes left) s.passed }

-- a read or a write failed in the open session
abbrev pub with_fault : Sessions → Sessions
with_fault s = record s { passed = with_last after_fault s.passed }

-- the wire after a read that answered this
abbrev pub after_reading : Got → Wired → Wired
after_reading (got.Read n) w = record { sessions = with_read (take n (left_in w.sessions)) (left_after (got.Read n) (left_in w.sessions)) w.sessions; script = moved w.script }
after_reading got.End w = record { sessions = w.sessions; script = moved w.script }
after_reading got.Failed w = record { sessions = with_fault w.sessions; script = failed (moved w.script) }

-- what a write of so many bytes answers: it fails where it is told to, and where it would pass the room
abbrev pub write_of : ℕ → Wired → Put
write_of count w =
    if is_failing w.script || nat_lt w.sessions.room (min count (next_piece w.script)) then put.Failed else put.Took (min count (next_piece w.script))

-- the sessions after these bytes were written
abbrev pub with_written : List ℕ → Sessions → Sessions
with_written bytes s = record s { passed = with_last (after_write bytes []) s.passed; room = s.room - length bytes }

-- the wire after a write of these bytes that answered this
abbrev pub after_writing : List ℕ → Put → Wired → Wired
after_writing bytes (put.Took n) w = record { sessions = with_written (take n bytes) w.sessions; script = moved w.script }
after_writing bytes put.Failed w = record { sessions = with_fault w.sessions; script = failed (moved w.script) }
