use Rattle.std.proofs.Common.{slice_range, length}
use Rattle.aw_spelling.proofs.Quotes.{read_is_content}
use Rattle.aw_spelling.proofs.quote.content_value.Goals as goal

pub returns-in-34-clause-content : goal.returns-in-34-clause-content
returns-in-34-clause-content c = read_is_content c.read_whole.result (slice_range c.args.b.now 1 (length c.args.b.now)) c.read_whole.ensures
