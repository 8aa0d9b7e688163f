use Rattle.std.proofs.Common.{◌≡◌, ◌++◌, sym, subst, OnOk, arith}
use Rattle.std.proofs.lemmas.Fmt.{decimal_digit}
use Rattle.itoa.proofs.Decimal.{decimal_two}
use Rattle.aw_spelling.proofs.number.push_number.Goals as goal

pub returns-then-n-lt10-clause-ok : goal.returns-then-n-lt10-clause-ok
returns-then-n-lt10-clause-ok c =
    subst (λ ds. OnOk c.push.result (c.push.new.self ≡ c.args.text.now ++ ds)) (sym (decimal_digit c.args.n c.if-n-lt10.true)) c.push.ensures.ok

pub returns-then-n-lt100-clause-ok : goal.returns-then-n-lt100-clause-ok
returns-then-n-lt100-clause-ok c =
    subst (λ ds. OnOk c.push_bytes.result (c.push_bytes.new.self ≡ c.args.text.now ++ ds)) (sym (decimal_two c.args.n (omega (arith, c.if-n-lt10.false)) c.if-n-lt100.true)) c.push_bytes.ensures.ok
