-- The requests of a courier as bytes.
use Rattle.std.specs.Prelude.{ℕ, ◌<◌, ◌^◌, List, [], ◌∷◌, ◌++◌, length}
use Rattle.std.specs.Int.{w32, w64, to_be_bytes}
use Rattle.aw_codec.specs.Choices.{spelled_choice}
use Rattle.aw_msg.specs.Spelling.{spelled_message}
use Rattle.aw_law_nodes.specs.Nodes.{Frame, Push, Choose, Pull, Listed}

-- 1 push, 2 choose, 3 pull, 4 list
abbrev pub frame_kind : Frame → ℕ
frame_kind (Push m) = 1
frame_kind (Choose c) = 2
frame_kind (Pull place) = 3
frame_kind (Listed place) = 4

-- exactly one message, exactly one choice, or a place in eight bytes
abbrev pub payload : Frame → List ℕ
payload (Push m) = spelled_message m
payload (Choose c) = spelled_choice c
payload (Pull place) = to_be_bytes w64 place
payload (Listed place) = to_be_bytes w64 place

-- the kind, the length of the payload in four bytes, and the payload
abbrev pub spelled_frame : Frame → List ℕ
spelled_frame f = frame_kind f ∷ (to_be_bytes w32 (length (payload f)) ++ payload f)

-- a place is one of those that eight bytes spell
abbrev pub PlaceFits : Frame → Type 0
PlaceFits (Push m) = Unit {0}
PlaceFits (Choose c) = Unit {0}
PlaceFits (Pull place) = place < 2 ^ 64
PlaceFits (Listed place) = place < 2 ^ 64

-- so many bytes a request has
abbrev pub size : Frame → ℕ
size f = length (spelled_frame f)

-- requests one behind the other
abbrev pub spelled_frames : List Frame → List ℕ
spelled_frames [] = []
spelled_frames (f ∷ fs) = spelled_frame f ++ spelled_frames fs
