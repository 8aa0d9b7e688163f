use Rattle.std.proofs.Common.{List, map}
use Rattle.aw_apply.specs.Messages.{Message}
use Rattle.aw_msg.specs.MessageView.{message_of}
use Rattle.aw_term.specs.Rules.{Grammar}
use Rattle.std.specs.Prelude.{◌≡◌, ◌++◌}
use Rattle.aw_book_drive.specs.Indexes.{AreNoted, Covers}
use Rattle.aw_book_drive.proofs.index.Index.note.Given as goal

-- those so far are noted
abbrev pub invariant-loop-at : goal.invariant-loop-at
invariant-loop-at l = (g : Grammar) (front more : List Message) → map (message_of g) l.messages ≡ front ++ more → Covers l.initial.self front → AreNoted l.self.numbers l.at (map (message_of g) l.messages)
