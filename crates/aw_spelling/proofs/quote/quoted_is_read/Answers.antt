use Rattle.aw_spelling.proofs.Quotes.{unquoted_quoted}
use Rattle.aw_spelling.proofs.quote.quoted_is_read.Goals as goal

pub returns : goal.returns
returns c = unquoted_quoted
