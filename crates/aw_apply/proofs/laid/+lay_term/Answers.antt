use Rattle.std.proofs.Common.{◌<◌, length, map, refl, ap, sym, ◌∙◌, arith}
use Rattle.std.proofs.lemmas.List.{length-map}
use Rattle.aw_term.specs.Trees.{Con}
use Rattle.aw_term.specs.Rules.{get}
use Rattle.aw_store.specs.EquationView.{equation_of}
use Rattle.aw_term.specs.Views.{head_of, term_of}
use Rattle.aw_apply.specs.Made.{no_ref}
use Rattle.aw_apply.specs.MadeView.{all_of, with_one}
use Rattle.aw_apply.proofs.LayLemmas.{on_given, on_both, expr_term, lone_laid, leaf_laid, con_laid, symbols_over, symbols_within, symbols_more, laid_more}
use Rattle.aw_apply.proofs.laid.+lay_term.Goals as goal

pub lay_term-returns-in-Var : goal.lay_term-returns-in-Var
lay_term-returns-in-Var t c =
    let n = c.args.node.now in
    let a = c.args.all.now in
    on_both c.add_variable.result
    (leaf_laid n (get (no_ref n) c.args.refs.now) a.next c.in-Var.x (term_of c.args.term.now) (map equation_of c.args.equations.now.items)
    a.roots.items c.add_variable.new.all.roots.items c.add_variable.new.all.next (ap term_of c.in-Var.is))
    c.add_variable.ensures.roots c.add_variable.ensures.next

pub lay_term-returns-in-Lit : goal.lay_term-returns-in-Lit
lay_term-returns-in-Lit t c =
    let n = c.args.node.now in
    let a = all_of (map equation_of c.args.equations.now.items) c.args.all.now in
    on_given c.lay_lit.result (λ e. e ∙ ap (with_one a) (lone_laid n (get (no_ref n) c.args.refs.now) a.next (head_of c.in-Lit.lit) _ (ap term_of c.in-Lit.is))) c.lay_lit.ensures

pub lay_term-lay_terms-requires : goal.lay_term-lay_terms-requires
lay_term-lay_terms-requires t c =
    let e = symbols_over (Con c.in-Con.c) (map term_of c.as_slice.result.now) _ (expr_term c.as_slice.result.now _ _ _ c.as_slice.ensures
    c.in-Con.is) in (omega (arith, c.decreases, e), omega (arith, c.requires, e))

pub lay_term-returns-in_ok-inner-in-Con : goal.lay_term-returns-in_ok-inner-in-Con
lay_term-returns-in_ok-inner-in-Con t c =
    let n = c.args.node.now in
    let qs = c.as_slice.result.now in
    let old = map equation_of c.args.equations.now.items in
    let opened = c.in_ok-at-in-Con in
    on_given c.close_con.result
    (con_laid n (get (no_ref n) c.args.refs.now) c.args.all.now.next (Con c.in-Con.c) (map term_of qs) (term_of c.args.term.now) old (map equation_of c.open_con.new.equations.items) opened.at _
    (all_of (map equation_of c.lay_terms.new.equations.items) c.in_ok-inner-in-Con.inner) (all_of old c.args.all.now) (all_of (map equation_of c.close_con.new.equations.items) c.close_con.new.all)
    (opened.ensures.place ∙ sym (length-map c.args.equations.now.items equation_of)) opened.ensures.equations c.in_ok-inner-in-Con.ensures (expr_term qs _ _ _ c.as_slice.ensures c.in-Con.is) refl)
    c.close_con.ensures

pub lay_terms-lay_term-requires : goal.lay_terms-lay_term-requires
lay_terms-lay_term-requires t c =
    let xs = c.args.terms.now in
    let i = c.loop-term.term-index in
    let x = c.term-item.result in
    let lt : i < length xs = c.loop-term-test.true in
    (omega (arith, c.decreases, symbols_within term_of xs i x lt c.term-item.is), omega (arith, c.loop-term.invariant.1, symbols_more term_of xs i x lt c.term-item.is))

pub lay_terms-loop-term-preserved : goal.lay_terms-loop-term-preserved
lay_terms-loop-term-preserved t c =
    let n = c.args.node.now in
    let a = all_of (map equation_of c.loop-term.equations.items) c.loop-term.all in
    let b = all_of (map equation_of c.lay_term.new.equations.items) c.lay_term.new.all in
    laid_more n (get (no_ref n) c.args.refs.now) term_of c.args.terms.now c.loop-term.term-index c.term-item.result a b _ _ 65535
    c.loop-term-test.true c.term-item.is refl c.in_ok-lay_term.ensures c.loop-term.invariant
