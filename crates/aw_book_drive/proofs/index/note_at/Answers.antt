use Rattle.std.proofs.Common.{Some, map, sym, ap, ◌∙◌}
use Rattle.std.proofs.lemmas.Option.{same_Some, slice_get-get_or}
use Rattle.aw_msg.specs.MessageView.{message_of}
use Rattle.aw_book_drive.specs.Indexes.{about}
use Rattle.aw_book_drive.proofs.Fronts.{seen-at}
use Rattle.aw_book_drive.proofs.Noting.{noted-more}
use Rattle.aw_book_drive.proofs.index.note_at.Goals as goal

pub returns : goal.returns
returns c = λ g all.
    let ms = c.args.messages.now in
    let item = c.index-messages-at.result in
    let there = slice_get-get_or ms c.args.at item c.requires ∙ ap Some (sym c.index-messages-at.is) in
    noted-more c.args.numbers.now c.note.new.numbers c.args.at (map (message_of g) ms) c.in_ok-subject.subject c.in_ok-note.ensures
    (λ x e. c.in_ok-subject.ensures g ∙ ap about (same_Some _ _ (sym (seen-at (message_of g) ms c.args.at item there) ∙ e))) all
