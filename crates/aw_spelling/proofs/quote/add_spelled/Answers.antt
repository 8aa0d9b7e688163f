use Rattle.std.proofs.Common.{◌≡◌, ◌++◌, ◌∙◌, sym, subst, OnOk}
use Rattle.aw_spelling.proofs.Quotes.{plain_spelled}
use Rattle.aw_spelling.proofs.quote.add_spelled.Goals as goal

pub returns-then-run_len-content-clause-ok : goal.returns-then-run_len-content-clause-ok
returns-then-run_len-content-clause-ok c =
    subst (λ bs. OnOk c.push_bytes.result (c.push_bytes.new.self ≡ c.args.text.now ++ bs)) (sym (plain_spelled c.args.content.now (sym c.run_len.ensures.value ∙ c.if-run_len-content.true)))
    c.push_bytes.ensures.ok
