use Rattle.std.proofs.Common.{List, map, ap, ◌∙◌, subst}
use Rattle.aw_msg.specs.MessageView.{message_of}
use Rattle.aw_msg.specs.declared.message.Message.{Message}
use Rattle.aw_book_drive.specs.Driving.{grammar_in}
use Rattle.aw_book_drive.specs.Indexes.{Covers}
use Rattle.aw_book_drive.proofs.driver.keep.Goals as goal

pub returns-clause-noted : goal.returns-clause-noted
returns-clause-noted g c = λ front more e covers.
    let d = grammar_in c.args.driver.now in
    subst (λ (ms : List Message). Covers c.note.new.self (map (message_of d) ms)) c.messages.ensures
    (c.in_ok-note.ensures d front more (ap (map (message_of d)) c.messages.ensures ∙ e) covers)
