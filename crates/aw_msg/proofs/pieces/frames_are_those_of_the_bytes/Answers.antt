use Rattle.aw_msg.proofs.Extensions.{split_once}
use Rattle.aw_msg.proofs.pieces.frames_are_those_of_the_bytes.Goals as goal

pub returns : goal.returns
returns c = split_once
