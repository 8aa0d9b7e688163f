use Rattle.std.proofs.Common.{◌≡◌, option_map, length, ◌≤◌, ◌+◌}
use Rattle.aw_spelling.specs.Spelling.{content_before_quote, text_behind_quote}
use Rattle.aw_spelling.proofs.Quotes.{end_after}
use Rattle.aw_spelling.proofs.quote.end_by_pieces.Given as goal

abbrev pub invariant-loop-len : goal.invariant-loop-len
invariant-loop-len l =
    record {
      rest : end_after l.len (content_before_quote l.rest) ≡ option_map (λ text. text.1) (text_behind_quote l.bytes);
      length : l.len + length l.rest ≤ length l.bytes;
    }

abbrev pub decreases-loop-len : goal.decreases-loop-len
decreases-loop-len l = length l.rest
