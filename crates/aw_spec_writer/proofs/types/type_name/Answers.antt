use Rattle.std.proofs.Common.{◌∙◌, ◌-◌, sym, ap, [], codes, arith}
use Rattle.aw_term.specs.Rules.{get}
use Rattle.aw_spec_writer.proofs.TypeTexts.{got_at, got_none, got_behind}
use Rattle.aw_spec_writer.proofs.types.type_name.Goals as goal

pub returns-in-Some : goal.returns-in-Some
returns-in-Some c =
    let names = c.args.t.now.names in
    c.as_slice.ensures ∙ sym (got_at names (c.from.result - 2) c.in-Some.name.now (sym c.in-Some.ensures.value))
    ∙ ap (λ k. get [] names (k - 2)) c.from.ensures ∙ got_behind (codes "num") (codes "text") names c.args.number (λ h. omega arith) (λ h. omega arith)

pub returns-in-None : goal.returns-in-None
returns-in-None c =
    let names = c.args.t.now.names in
    sym (got_none names (c.from.result - 2) (sym c.in-None.ensures.value))
    ∙ ap (λ k. get [] names (k - 2)) c.from.ensures ∙ got_behind (codes "num") (codes "text") names c.args.number (λ h. omega arith) (λ h. omega arith)
