use Rattle.std.proofs.Common.{ℕ, ◌<◌}
use Rattle.aw_term.specs.Trees.{Never}
use Rattle.aw_book_drive.specs.Causes.{IsAlikeAt}
use Rattle.aw_book_drive.proofs.causes.find_alike.Given as goal

-- none of those so far is alike
abbrev pub invariant-loop-number : goal.invariant-loop-number
invariant-loop-number l = (k : ℕ) → k < l.number → IsAlikeAt l.messages l.m k → Never
