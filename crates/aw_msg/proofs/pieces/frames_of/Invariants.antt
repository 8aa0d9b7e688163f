use Rattle.std.proofs.Common.{map, take}
use Rattle.std.specs.List.{flat_map}
use Rattle.aw_msg.specs.FrameView.{frame_of}
use Rattle.aw_msg.specs.Pieces.{Yields, HasEnded}
use Rattle.aw_msg.proofs.pieces.frames_of.Given as goal

abbrev pub invariant-loop-piece : goal.invariant-loop-piece
invariant-loop-piece l = Yields (flat_map (λ piece. piece) (take l.piece-index l.pieces)) (map frame_of l.frames.items) l.reader.bytes × HasEnded l.reader.failed l.reader.bytes
