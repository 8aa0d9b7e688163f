use Rattle.aw_codec.proofs.Laws.{reads_spelled, spelled_if_read, none_begins_another}
use Rattle.aw_codec.proofs.Cuts.{cut_short}
use Rattle.aw_msg.proofs.MessageLaws.{message_law}
use Rattle.aw_msg.proofs.MessageExtends.{message_extends}
use Rattle.aw_msg.proofs.decoding.messages_have_one_spelling.Goals as goal

pub returns-clause-again : goal.returns-clause-again
returns-clause-again c = reads_spelled message_law

pub returns-clause-spelled : goal.returns-clause-spelled
returns-clause-spelled c = spelled_if_read message_law

pub returns-clause-apart : goal.returns-clause-apart
returns-clause-apart c = none_begins_another message_law

pub returns-clause-cut : goal.returns-clause-cut
returns-clause-cut c = cut_short message_law message_extends
