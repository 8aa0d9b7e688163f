use Rattle.std.proofs.Common.{◌≡◌, length}
use Rattle.aw_spelling.specs.Spelling.{content_before_quote, text_behind_quote}
use Rattle.aw_spelling.proofs.Quotes.{text_after}
use Rattle.aw_spelling.proofs.quote.read_by_pieces.Given as goal

abbrev pub invariant-loop-rest : goal.invariant-loop-rest
invariant-loop-rest l = text_after l.content (content_before_quote l.rest) ≡ text_behind_quote l.bytes

abbrev pub decreases-loop-rest : goal.decreases-loop-rest
decreases-loop-rest l = length l.rest
