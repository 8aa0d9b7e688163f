use Rattle.std.proofs.Common.{◌≡◌, ◌∙◌, sym, ap, arith, cond, map, None}
use Rattle.aw_term.specs.Views.{ground_of}
use Rattle.aw_term.proofs.ViewLemmas.{ground_con}
use Rattle.aw_grammar.specs.GrammarOf.{grammar_of}
use Rattle.aw_base.specs.Allowance.{left_after, left_after_all}
use Rattle.aw_base.proofs.Allowances.{no_levels, no_symbols, made_by}
use Rattle.aw_base.proofs.choice_fits.+allowance.Goals as goal

pub left_after-returns-in_err-levels : goal.left_after-returns-in_err-levels
left_after-returns-in_err-levels t c =
    let a = (grammar_of c.args.g.now).arities in
    let none : c.args.levels ≡ 0 = omega arith in
    c.from_residual.ensures ∙ sym (ap (λ n. left_after a n c.args.allowed (ground_of c.args.t.now)) none ∙ no_levels a c.args.allowed (ground_of c.args.t.now))

pub left_after-returns-in_err-left : goal.left_after-returns-in_err-left
left_after-returns-in_err-left t c =
    let a = (grammar_of c.args.g.now).arities in
    let none : c.args.allowed ≡ 0 = omega arith in
    c.from_residual-in_err-left.ensures ∙ sym (ap (λ n. left_after a c.args.levels n (ground_of c.args.t.now)) none ∙ no_symbols a c.args.levels (ground_of c.args.t.now))

pub left_after-returns-then-con_fits : goal.left_after-returns-then-con_fits
left_after-returns-then-con_fits t c =
    let a = (grammar_of c.args.g.now).arities in
    let parts = c.in-Con.parts in
    let rest = left_after_all a c.in_ok-levels.levels c.in_ok-left.left (map ground_of parts) in
    c.left_after_all.ensures
    ∙ ap (λ ps. left_after_all a c.in_ok-levels.levels c.in_ok-left.left (map ground_of ps)) c.as_slice-then-con_fits.ensures
    ∙ ap (λ b. cond b rest None) (sym c.if-con_fits.true)
    ∙ made_by ground_of parts a c.args.levels c.in_ok-levels.levels c.args.allowed c.in_ok-left.left c.in-Con.con c.len.result c.con_fits.result
    (omega arith) (omega arith) c.len.ensures c.con_fits.ensures
    ∙ sym (ap (λ u. left_after a c.args.levels c.args.allowed (ground_of u)) c.in-Con.is ∙ ap (left_after a c.args.levels c.args.allowed) (ground_con c.in-Con.con parts))

pub left_after-returns-else-con_fits : goal.left_after-returns-else-con_fits
left_after-returns-else-con_fits t c =
    let a = (grammar_of c.args.g.now).arities in
    let parts = c.in-Con.parts in
    let rest = left_after_all a c.in_ok-levels.levels c.in_ok-left.left (map ground_of parts) in
    ap (λ b. cond b rest None) (sym c.if-con_fits.false)
    ∙ made_by ground_of parts a c.args.levels c.in_ok-levels.levels c.args.allowed c.in_ok-left.left c.in-Con.con c.len.result c.con_fits.result
    (omega arith) (omega arith) c.len.ensures c.con_fits.ensures
    ∙ sym (ap (λ u. left_after a c.args.levels c.args.allowed (ground_of u)) c.in-Con.is ∙ ap (left_after a c.args.levels c.args.allowed) (ground_con c.in-Con.con parts))
