use Rattle.std.proofs.Common.{◌+◌, map, take}
use Rattle.std.specs.List.{flat_map}
use Rattle.aw_msg.specs.FrameView.{frame_of}
use Rattle.aw_msg.proofs.PieceLemmas.{started, fed_sound, fed_yields}
use Rattle.aw_msg.proofs.pieces.frames_of.Goals as goal

pub loop-piece-init : goal.loop-piece-init
loop-piece-init c = started c.new-reader.result c.new-frames.result.items c.new-reader.ensures c.new-frames.ensures.items

pub take_frames-requires : goal.take_frames-requires
take_frames-requires c = fed_sound c.loop-piece.reader c.feed.new.self c.as_slice.result.now c.loop-piece.invariant.1 c.in_ok-feed.ensures.ok

pub loop-piece-preserved : goal.loop-piece-preserved
loop-piece-preserved c = (
  c.in_ok-take_frames.ensures.yields (flat_map (λ p. p) (take (c.loop-piece.piece-index + 1) c.args.pieces.now))
      (fed_yields c.args.pieces.now c.loop-piece.piece-index c.piece-item.result c.as_slice.result.now (map frame_of c.loop-piece.frames.items) c.loop-piece.reader c.feed.new.self
      c.loop-piece-test.true c.piece-item.is c.as_slice.ensures c.loop-piece.invariant.0 c.in_ok-feed.ensures.ok),
  c.in_ok-take_frames.ensures.ended,
)
