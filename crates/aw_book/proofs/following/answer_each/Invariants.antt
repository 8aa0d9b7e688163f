use Rattle.aw_book_join.specs.Replicas.{IsUsable}
use Rattle.aw_book.proofs.following.answer_each.Given as goal

-- it goes on by the same grammar and types
abbrev pub invariant-asks : goal.invariant-asks
invariant-asks g l = IsUsable l.redone.replica
