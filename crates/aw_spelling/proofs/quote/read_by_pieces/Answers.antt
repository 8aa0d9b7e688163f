use Rattle.std.proofs.Common.{◌∙◌, sym, ap, arith}
use Rattle.aw_spelling.specs.Spelling.{content_before_quote}
use Rattle.aw_spelling.proofs.Quotes.{text_after, text_at_start, text_closes, text_one_more, text_run, text_too_long}
use Rattle.aw_spelling.proofs.quote.read_by_pieces.Goals as goal

pub loop-rest-init : goal.loop-rest-init
loop-rest-init c = ap (λ xs. text_after xs (content_before_quote c.args.bytes.now)) c.new-content.ensures ∙ text_at_start (content_before_quote c.args.bytes.now)

pub loop-rest-preserved-in-Byte : goal.loop-rest-preserved-in-Byte
loop-rest-preserved-in-Byte c =
    let front = c.loop-rest.content in
    let rest = content_before_quote c.in-Byte.behind.now in
    ap (λ xs. text_after xs rest) c.in_ok-push-in-Byte.ensures.ok ∙ sym (text_one_more front c.in-Byte.byte rest) ∙ ap (text_after front) (sym c.in-Byte.ensures.value)
    ∙ c.loop-rest.invariant

pub loop-rest-preserved : goal.loop-rest-preserved
loop-rest-preserved c =
    let front = c.loop-rest.content in
    let rest = content_before_quote c.in-Run.behind.now in
    ap (λ xs. text_after xs rest) c.in_ok-push_bytes-in-Run.ensures.ok ∙ sym (text_run front c.in-Run.run'.now rest) ∙ ap (text_after front) (sym c.in-Run.ensures.value)
    ∙ c.loop-rest.invariant

pub returns-in-Close : goal.returns-in-Close
returns-in-Close c =
    let l = c.loop-rest in
    sym (text_closes l.content c.in-Close.behind.now (omega (arith, c.loop-rest-test.true, c.len.ensures))) ∙ ap (text_after l.content) (sym c.in-Close.ensures.value) ∙ l.invariant

pub returns : goal.returns
returns c =
    let l = c.loop-rest in
    sym (text_too_long l.content (content_before_quote l.rest.now) (omega arith)) ∙ l.invariant
