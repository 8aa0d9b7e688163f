use Rattle.std.proofs.lemmas.Bool.Decides.{Decides-at}
use Rattle.aw_book_drive.proofs.Exact.{message_exact}
use Rattle.aw_book_drive.proofs.messages.is_same_message.Goals as goal

pub returns : goal.returns
returns c = Decides-at c.eq.result _ c.eq.ensures (message_exact c.args.a.now c.args.b.now)
