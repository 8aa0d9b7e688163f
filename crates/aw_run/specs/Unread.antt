-- What is said of a source that was not read to its end.
use Rattle.std.specs.Prelude.{Result, Ok, Err}
use Rattle.aw_out.specs.declared.error.ReadError.{ReadError}
use Rattle.aw_out.specs.declared.error.ReadError.TheVariants as error
use Rattle.aw_front.specs.declared.reply.Reply.{Reply}
use Rattle.aw_run.specs.declared.reply.Stop.{Stop}
use Rattle.aw_run.specs.declared.reply.Stop.TheVariants as stop
use Rattle.aw_front.specs.Output.{PastInputLimit}
use Rattle.aw_front.specs.Replies.{reply_with}

-- what a run says of such a source: too long an input is told, and each other end stops the run
abbrev pub unread_gives : ReadError → Result Reply Stop
unread_gives error.TooLong = Ok (reply_with PastInputLimit)
unread_gives error.ReadFault = Err stop.ReadFault
unread_gives error.NoMemory = Err stop.NoMemory
