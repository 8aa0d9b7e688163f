-- A frame of the program, as the definitions speak of it.
use Rattle.aw_choice.specs.ChoiceView.{choice_of}
use Rattle.aw_msg.specs.Frames as plain
use Rattle.aw_msg.specs.declared.frame.Frame.{Frame}
use Rattle.aw_msg.specs.declared.frame.Frame.TheVariants as frames

-- a frame, with its choice as the plain one
abbrev pub frame_of : Frame → plain.Frame
frame_of (frames.Push m) = plain.Push m
frame_of (frames.Choose c) = plain.Choose (choice_of c)
frame_of (frames.Pull place) = plain.Pull place
frame_of (frames.List place) = plain.Listed place
