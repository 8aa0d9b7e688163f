-- Which replies have a spelling.
use Rattle.aw_msg.specs.Messages.{MessageInRange}
use Rattle.aw_msg.specs.declared.reply.Answered.{Answered}
use Rattle.aw_msg.specs.declared.reply.Answered.TheVariants.{Message}

-- a message that is handed out is in range
abbrev pub ReplyInRange : Answered → Type 0
ReplyInRange (Message m) = MessageInRange m
ReplyInRange _ = Unit {0}
