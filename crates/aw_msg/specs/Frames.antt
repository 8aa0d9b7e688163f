-- How requests to a workspace are spelled in bytes, and how they are read.
use Rattle.std.specs.Prelude.{ℕ, zero, suc, ◌<◌, ◌^◌, Bool, nat_lt, nat_le, ◌==◌, List, ◌∷◌, ◌++◌, length, take, drop, Option, None, Some, option_map, Result, Ok, Err, if◌then◌else◌}
use Rattle.std.specs.Int.{w32, w64, to_be_bytes}
use Rattle.aw_term.specs.Choices as Q
use Rattle.aw_codec.specs.Reading.{Fault, Short, Bad, Reader, ◌>>=◌, byte, number, such_that}
use Rattle.aw_codec.specs.Names.{is_from_1_to}
use Rattle.aw_codec.specs.Choices.{spelled_choice, choice}
use Rattle.aw_codec.specs.Ranges.{ChoiceSized, ChoiceInRange}
use Rattle.aw_msg.specs.declared.message.Message.{Message}
use Rattle.aw_msg.specs.Messages.{spelled_message, MessageSized, MessageInRange, message}

-- a message that comes, a choice, or a question for a place of the outbox or of the worklist
pub data Frame : Type 0 where
  Push : (m : Message) → Frame
  Choose : (c : Q.Choice) → Frame
  Pull : (place : ℕ) → Frame
  Listed : (place : ℕ) → Frame

-- ---- the spelling

-- the byte that tells what is asked for
abbrev pub frame_kind : Frame → ℕ
frame_kind (Push m) = 1
frame_kind (Choose c) = 2
frame_kind (Pull place) = 3
frame_kind (Listed place) = 4

-- a message or a choice, or a place in eight bytes
abbrev pub spelled_payload : Frame → List ℕ
spelled_payload (Push m) = spelled_message m
spelled_payload (Choose c) = spelled_choice c
spelled_payload (Pull place) = to_be_bytes w64 place
spelled_payload (Listed place) = to_be_bytes w64 place

-- the kind, the length of the payload in four bytes, and the payload
abbrev pub spelled_frame : Frame → List ℕ
spelled_frame f = frame_kind f ∷ (to_be_bytes w32 (length (spelled_payload f)) ++ spelled_payload f)

-- ---- what has a spelling

-- its numbers have the sizes of the program's types
abbrev pub FrameSized : Frame → Type 0
FrameSized (Push m) = MessageSized m
FrameSized (Choose c) = ChoiceSized c
FrameSized (Pull place) = place < 2 ^ 64
FrameSized (Listed place) = place < 2 ^ 64

-- its message or its choice is in range
abbrev pub FrameInRange : Frame → Type 0
FrameInRange (Push m) = MessageInRange m
FrameInRange (Choose c) = ChoiceInRange c
FrameInRange (Pull place) = Unit {0}
FrameInRange (Listed place) = Unit {0}

-- ---- reading

-- what was read, where no byte is left
abbrev pub all_of : {A : Type 0} → Result (A × List ℕ) Fault → Option A
all_of (Ok x) = if length x.1 == 0 then Some x.0 else None
all_of (Err e) = None

-- all of the bytes are one value
abbrev pub whole : {A : Type 0} → Reader A → List ℕ → Option A
whole read bytes = all_of (read bytes)

-- the request that all of these bytes are, where they are one of this kind
unfoldable pub payload : ℕ → List ℕ → Option Frame
payload zero bytes = None
payload (suc zero) bytes = option_map Push (whole message bytes)
payload (suc (suc zero)) bytes = option_map Choose (whole choice bytes)
payload (suc (suc (suc zero))) bytes = option_map Pull (whole (number w64) bytes)
payload (suc (suc (suc (suc zero)))) bytes = option_map Listed (whole (number w64) bytes)
payload (suc (suc (suc (suc (suc k))))) bytes = None

-- a payload of kinds 1 and 2 has at most 1048576 bytes, one of kinds 3 and 4 has 8
abbrev pub has_length : ℕ → ℕ → Bool
has_length kind n = if nat_le kind 2 then nat_le n 1048576 else n == 8

-- a payload that is none breaks its rule as a whole
abbrev pub known : ℕ → Option Frame → List ℕ → Result (Frame × List ℕ) Fault
known left None rest = Err (Bad left)
known left (Some f) rest = Ok (f, rest)

-- a payload of this kind and of n bytes, once all of them are there
abbrev pub payload_at : ℕ → ℕ → Reader Frame
payload_at kind n bytes = if nat_lt (length bytes) n then Err Short else known (length bytes) (payload kind (take n bytes)) (drop n bytes)

-- a frame: the kind is judged when its byte is there, the length when its four bytes are there, the payload when it is whole
unfoldable pub frame : Reader Frame
frame bytes = such_that (is_from_1_to 4) byte bytes >>= λ kind. such_that (has_length kind.0) (number w32) kind.1 >>= λ n. payload_at kind.0 n.0 n.1
