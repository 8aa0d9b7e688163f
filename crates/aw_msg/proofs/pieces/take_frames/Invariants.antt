use Rattle.std.proofs.Common.{ℕ, List, length, map}
use Rattle.aw_msg.specs.FrameView.{frame_of}
use Rattle.aw_msg.specs.Pieces.{Yields, IsSound}
use Rattle.aw_msg.proofs.pieces.take_frames.Given as goal

abbrev pub decreases-loop : goal.decreases-loop
decreases-loop l = length l.reader.bytes

abbrev pub invariant-loop : goal.invariant-loop
invariant-loop l = IsSound l.reader × ((bytes : List ℕ) → Yields bytes (map frame_of l.initial.frames.items) l.initial.reader.bytes → Yields bytes (map frame_of l.frames.items) l.reader.bytes)
