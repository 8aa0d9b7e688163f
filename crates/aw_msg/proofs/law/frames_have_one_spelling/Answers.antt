use Rattle.aw_codec.proofs.Laws.{reads_spelled, spelled_if_read, none_begins_another}
use Rattle.aw_codec.proofs.Cuts.{cut_short}
use Rattle.aw_msg.proofs.FrameLaws.{frame_law}
use Rattle.aw_msg.proofs.Extensions.{frame_extends}
use Rattle.aw_msg.proofs.law.frames_have_one_spelling.Goals as goal

pub returns-clause-again : goal.returns-clause-again
returns-clause-again c = reads_spelled frame_law

pub returns-clause-spelled : goal.returns-clause-spelled
returns-clause-spelled c = spelled_if_read frame_law

pub returns-clause-apart : goal.returns-clause-apart
returns-clause-apart c = none_begins_another frame_law

pub returns-clause-cut : goal.returns-clause-cut
returns-clause-cut c = cut_short frame_law frame_extends
