-- A reply of the program as a plain one.
use Rattle.aw_term.specs.Rules.{Grammar}
use Rattle.aw_choice.specs.ChoiceView.{answer_of, item_of}
use Rattle.aw_msg.specs.MessageView.{message_of, content_of}
use Rattle.aw_msg.specs.Responses as P
use Rattle.aw_msg.specs.declared.reply.Answered.{Answered}
use Rattle.aw_msg.specs.declared.reply.Answered.TheVariants.{New, Again, Conflict, NotMine, BadName, Answer, Message, TooLong, BadFrame, Nothing, Item}

-- a reply, where this is the grammar that gives a called node its sort
abbrev pub response_of : Grammar → Answered → P.Response
response_of g New = P.WasNew
response_of g Again = P.WasHeld
response_of g (Conflict kept came) = P.Contradicts (content_of kept) (content_of came)
response_of g NotMine = P.NotForMe
response_of g BadName = P.NotValid
response_of g (Answer a) = P.Answers (answer_of a)
response_of g (Message m) = P.Sends (message_of g m)
response_of g TooLong = P.TooLong
response_of g BadFrame = P.BadFrame
response_of g (Nothing n) = P.Ended n
response_of g (Item i) = P.Shows (item_of i)
