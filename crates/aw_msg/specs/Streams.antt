-- A stream of requests as it comes, in any pieces.
use Rattle.std.specs.Prelude.{ℕ, Bool, true, List, Result, Ok, Err, if◌then◌else◌}
use Rattle.aw_codec.specs.Reading.{Fault, Short, Bad}
use Rattle.aw_msg.specs.Frames.{Frame, frame}

-- the bytes that came and do not belong to a frame that was taken; and whether no frame stood in a frame's place
pub record Stream : Type 0 where
  pub bytes : List ℕ
  pub failed : Bool

-- a frame, less than a frame, or what is no frame however it goes on
pub data Next : Type 0 where
  Ready : (f : Frame) → Next
  Need : Next
  Wrong : Next

-- what stands next, where this was read of the bytes that came
abbrev pub next_in : Result (Frame × List ℕ) Fault → Next
next_in (Ok x) = Ready x.0
next_in (Err Short) = Need
next_in (Err (Bad left)) = Wrong

-- what stands next; once no frame stood there, none ever does
abbrev pub next_of : Stream → Next
next_of s = if s.failed then Wrong else next_in (frame s.bytes)

-- the stream behind that: a frame is taken, less than one stays, and what is no frame ends all
abbrev pub left_in : Stream → Result (Frame × List ℕ) Fault → Stream
left_in s (Ok x) = record s { bytes = x.1 }
left_in s (Err Short) = s
left_in s (Err (Bad left)) = record s { failed = true }

-- the stream behind it
abbrev pub left_of : Stream → Stream
left_of s = if s.failed then s else left_in s (frame s.bytes)
