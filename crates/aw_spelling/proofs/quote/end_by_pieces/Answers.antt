use Rattle.std.proofs.Common.{◌∙◌, sym, ap, arith}
use Rattle.aw_spelling.specs.Spelling.{content_before_quote}
use Rattle.aw_spelling.proofs.Quotes.{end_after, end_at_start, end_one_more, end_run, end_too_long}
use Rattle.aw_spelling.proofs.quote.end_by_pieces.Goals as goal

pub loop-len-init : goal.loop-len-init
loop-len-init c = record { rest = end_at_start (content_before_quote c.args.bytes.now); length = omega arith }

pub loop-len-preserved-in-Byte : goal.loop-len-preserved-in-Byte
loop-len-preserved-in-Byte c =
    let k = c.loop-len.len in
    let e = sym (end_one_more k c.in-Byte.field-0 (content_before_quote c.in-Byte.behind.now))
    ∙ ap (end_after k) (sym c.in-Byte.ensures.value) ∙ c.loop-len.invariant.rest in
    record { rest = e; length = omega (arith, c.in-Byte.ensures.shorter, c.loop-len.invariant.length) }

pub loop-len-preserved : goal.loop-len-preserved
loop-len-preserved c =
    let k = c.loop-len.len in
    let e = sym (end_run k c.in-Run.run'.now (content_before_quote c.in-Run.behind.now))
    ∙ ap (end_after k) (sym c.in-Run.ensures.value) ∙ c.loop-len.invariant.rest in
    record { rest = e; length = omega (arith, c.in-Run.ensures.shorter.1, c.loop-len.invariant.length) }

pub returns-clause-value : goal.returns-clause-value
returns-clause-value c = sym (end_too_long c.loop-len.len (content_before_quote c.loop-len.rest.now) (omega arith)) ∙ c.loop-len.invariant.rest
