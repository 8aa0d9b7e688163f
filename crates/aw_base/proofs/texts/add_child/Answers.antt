use Rattle.std.proofs.Common.{◌≡◌, ◌++◌, ◌∷◌, sym, subst, OnOk}
use Rattle.std.proofs.lemmas.Fmt.{decimal_digit}
use Rattle.aw_base.proofs.texts.add_child.Goals as goal

pub returns-then-child-lt10-clause-ok : goal.returns-then-child-lt10-clause-ok
returns-then-child-lt10-clause-ok c =
    subst (λ ds. OnOk c.push_bytes.result (c.push_bytes.new.self ≡ c.args.text.now ++ 46 ∷ ds)) (sym (decimal_digit c.args.child c.if-child-lt10.true)) c.push_bytes.ensures.ok
