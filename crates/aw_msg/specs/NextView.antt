-- What a reader of requests answers, as the definitions speak of it.
use Rattle.aw_msg.specs.Streams as plain
use Rattle.aw_msg.specs.Frames.{FrameInRange}
use Rattle.aw_msg.specs.FrameView.{frame_of}
use Rattle.aw_msg.specs.declared.frame_reader.Next.{Next}
use Rattle.aw_msg.specs.declared.frame_reader.Next.TheVariants.{Frame, Need, Bad}

-- a frame, less than a frame, or no frame, as the plain answer
abbrev pub answer_of : Next → plain.Next
answer_of (Frame f) = plain.Ready (frame_of f)
answer_of Need = plain.Need
answer_of Bad = plain.Wrong

-- a frame that is handed out is in range
abbrev pub NextInRange : Next → Type 0
NextInRange (Frame f) = FrameInRange (frame_of f)
NextInRange Need = Unit {0}
NextInRange Bad = Unit {0}
