use Rattle.std.proofs.Common.{sym, ap, ◌∙◌}
use Rattle.aw_msg.specs.Spelling.{is_loaded}
use Rattle.aw_msg.specs.MessageView.{plain_kind}
use Rattle.aw_msg.proofs.MessageWriting.{has_load_is}
use Rattle.aw_msg.proofs.writing.has_load.Goals as goal

pub returns-in-Call : goal.returns-in-Call
returns-in-Call c = has_load_is c.is_empty.result c.in-Call.load c.is_empty.ensures ∙ ap (λ k. is_loaded (plain_kind k)) (sym c.in-Call.is)

pub returns-in-Tell : goal.returns-in-Tell
returns-in-Tell c = has_load_is c.is_empty-in-Tell.result c.in-Tell.load c.is_empty-in-Tell.ensures ∙ ap (λ k. is_loaded (plain_kind k)) (sym c.in-Tell.is)
