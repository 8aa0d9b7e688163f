use Rattle.aw_spelling.proofs.Quotes.{plain_text}
use Rattle.aw_spelling.proofs.quote.plain_len.Goals as goal

pub returns-then-len-le-MOST_OF_CONTENT-clause-text : goal.returns-then-len-le-MOST_OF_CONTENT-clause-text
returns-then-len-le-MOST_OF_CONTENT-clause-text c =
    plain_text c.args.bytes.now c.run_len-len.result c.run_len-len.ensures.value c.if-len-bytes.true c.if-bytes-len-eq34.true c.if-len-le-MOST_OF_CONTENT.true
