use Rattle.std.proofs.Common.{◌≡◌, true, false, ◌&&◌, length, map, ap, sym, ◌∙◌}
use Rattle.aw_grammar.specs.Written.{written_of}
use Rattle.aw_grammar.specs.Kinds.{has_arity, con_called, has_arities, all_have_arities}
use Rattle.aw_grammar.proofs.TermLemmas.{arities_apply}
use Rattle.aw_grammar.proofs.resolve.+arities.Goals as goal

pub has_arities-returns-then-has_arity : goal.has_arities-returns-then-has_arity
has_arities-returns-then-has_arity t c =
    let cons = c.args.grammar.now.cons in
    let rest = all_have_arities cons (map written_of c.in-Apply.parts) in
    let here : has_arity (length c.in-Apply.parts) (con_called c.in-Apply.name cons) ≡ true =
    ap (λ n. has_arity n (con_called c.in-Apply.name cons)) (sym c.len.ensures) ∙ sym c.has_arity-in-Apply.ensures ∙ c.if-has_arity.true in
    c.have_arities.ensures ∙ sym (ap (λ b. b && rest) here)
    ∙ sym (ap (λ w. has_arities cons (written_of w)) c.in-Apply.is ∙ arities_apply cons c.in-Apply.name c.in-Apply.parts)

pub has_arities-returns-else-has_arity : goal.has_arities-returns-else-has_arity
has_arities-returns-else-has_arity t c =
    let cons = c.args.grammar.now.cons in
    let rest = all_have_arities cons (map written_of c.in-Apply.parts) in
    let here : has_arity (length c.in-Apply.parts) (con_called c.in-Apply.name cons) ≡ false =
    ap (λ n. has_arity n (con_called c.in-Apply.name cons)) (sym c.len.ensures) ∙ sym c.has_arity-in-Apply.ensures ∙ c.if-has_arity.false in
    c.if-has_arity.false ∙ sym (ap (λ b. b && rest) here)
    ∙ sym (ap (λ w. has_arities cons (written_of w)) c.in-Apply.is ∙ arities_apply cons c.in-Apply.name c.in-Apply.parts)
