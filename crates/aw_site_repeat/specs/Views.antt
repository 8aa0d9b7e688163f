-- What a message of the program says, as a plain one.
use Rattle.aw_term.specs.Rules.{Grammar}
use Rattle.aw_apply.specs.Messages as P
use Rattle.aw_msg.specs.MessageView.{kind_with, sort_or_zero}
use Rattle.aw_msg.specs.declared.message.MsgKind.{MsgKind}

-- what a message says, with the sort of the called node
abbrev pub kind_of : Grammar → MsgKind → P.Kind
kind_of g k = kind_with (sort_or_zero g) k
