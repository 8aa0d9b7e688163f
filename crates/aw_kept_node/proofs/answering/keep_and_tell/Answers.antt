use Rattle.aw_msg.specs.FrameView.{frame_of}
use Rattle.aw_msg.specs.ResponseView.{response_of}
use Rattle.aw_kept_append.specs.News.{event_by}
use Rattle.aw_kept_node.proofs.Kept.{fails-behind}
use Rattle.aw_kept_node.proofs.answering.keep_and_tell.Goals as goal

pub returns-in-Ok-reply_bytes-clause-bytes : goal.returns-in-Ok-reply_bytes-clause-bytes
returns-in-Ok-reply_bytes-clause-bytes g c = rw c.grammar.ensures.value at c.in-Ok-reply_bytes.ensures

pub returns-in-Err-reply_bytes-clause-err : goal.returns-in-Err-reply_bytes-clause-err
returns-in-Err-reply_bytes-clause-err g c p =
    fails-behind g.D.Disk (event_by (frame_of c.args.frame.now) (response_of p c.args.answered.now)) c.args.journal.now c.keep.new.journal c.args.disk.now c.keep.new.disk (c.in-Ok.ensures.ok p)
