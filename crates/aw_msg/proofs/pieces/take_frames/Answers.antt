use Rattle.std.proofs.Common.{map, sym, subst}
use Rattle.std.proofs.lemmas.Bool.{both_ways}
use Rattle.aw_msg.specs.FrameView.{frame_of}
use Rattle.aw_msg.specs.Pieces.{Yields, TakesOne}
use Rattle.aw_msg.proofs.Extensions.{frame_shorter, yields_one}
use Rattle.aw_msg.proofs.pieces.take_frames.Goals as goal

pub loop-smaller : goal.loop-smaller
loop-smaller c =
    let t = subst (λ b. TakesOne b c.loop.reader (map frame_of c.loop.frames.items) c.take_frame.new.reader (map frame_of c.take_frame.new.frames.items)) c.if-branch.true c.in_ok-take_frame.ensures in
    frame_shorter c.loop.reader.bytes t.0 c.take_frame.new.reader.bytes t.1

pub loop-preserved : goal.loop-preserved
loop-preserved c =
    let t = subst (λ b. TakesOne b c.loop.reader (map frame_of c.loop.frames.items) c.take_frame.new.reader
    (map frame_of c.take_frame.new.frames.items)) c.if-branch.true c.in_ok-take_frame.ensures in (
      λ e. absurd (both_ways c.take_frame.new.reader.failed t.2 e),
      λ bytes h. subst (λ fs. Yields bytes fs c.take_frame.new.reader.bytes) (sym t.3)
          (yields_one bytes (map frame_of c.loop.frames.items) c.loop.reader.bytes t.0 c.take_frame.new.reader.bytes (c.loop.invariant.1 bytes h) t.1),
    )
