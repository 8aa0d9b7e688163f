use Rattle.std.proofs.Common.{◌≡◌, ◌++◌, ◌∷◌, sym, subst, OnOk}
use Rattle.std.proofs.lemmas.Fmt.{decimal_digit}
use Rattle.aw_base.proofs.texts.add_lettered.Goals as goal

pub returns-then-number-lt10-clause-ok : goal.returns-then-number-lt10-clause-ok
returns-then-number-lt10-clause-ok c =
    subst (λ ds. OnOk c.push_bytes.result (c.push_bytes.new.self ≡ c.args.text.now ++ 58 ∷ c.args.letter ∷ ds)) (sym (decimal_digit c.args.number c.if-number-lt10.true))
    c.push_bytes.ensures.ok
