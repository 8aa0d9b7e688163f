use Rattle.std.proofs.Common.{◌<◌, length, map, refl, ap, sym, ◌∙◌, arith}
use Rattle.std.proofs.lemmas.List.{length-map}
use Rattle.aw_term.specs.Trees.{Con, Num, Text}
use Rattle.aw_store.specs.EquationView.{equation_of}
use Rattle.aw_term.specs.Views.{ground_of}
use Rattle.aw_apply.specs.MadeView.{all_of, with_one}
use Rattle.aw_apply.proofs.LayLemmas.{on_given, ground_term, lone_laid, con_laid, symbols_over, symbols_within, symbols_more, laid_more}
use Rattle.aw_apply.proofs.laid.+lay_ground.Goals as goal

pub lay_ground-returns-in-Num : goal.lay_ground-returns-in-Num
lay_ground-returns-in-Num t c =
    let a = all_of (map equation_of c.args.equations.now.items) c.args.all.now in
    on_given c.lay_lone.result (λ e. e ∙ ap (with_one a) (lone_laid c.args.node.now (λ x. elim x [ ]) a.next (Num c.in-Num.n) _ (ap ground_of c.in-Num.is))) c.lay_lone.ensures

pub lay_ground-returns-in-Text : goal.lay_ground-returns-in-Text
lay_ground-returns-in-Text t c =
    let a = all_of (map equation_of c.args.equations.now.items) c.args.all.now in
    on_given c.lay_text.result (λ e. e ∙ ap (with_one a) (lone_laid c.args.node.now (λ x. elim x [ ]) a.next (Text c.in-Text.t) _ (ap ground_of c.in-Text.is))) c.lay_text.ensures

pub lay_ground-lay_grounds-requires : goal.lay_ground-lay_grounds-requires
lay_ground-lay_grounds-requires t c =
    let e = symbols_over (Con c.in-Con.c) (map ground_of c.as_slice.result.now) _ (ground_term c.as_slice.result.now _ _ _ c.as_slice.ensures
    c.in-Con.is) in (omega (arith, c.decreases, e), omega (arith, c.requires, e))

pub lay_ground-returns-in_ok-inner-in-Con : goal.lay_ground-returns-in_ok-inner-in-Con
lay_ground-returns-in_ok-inner-in-Con t c =
    let qs = c.as_slice.result.now in
    let old = map equation_of c.args.equations.now.items in
    let opened = c.in_ok-at-in-Con in
    on_given c.close_con.result
    (con_laid c.args.node.now (λ x. elim x [ ]) c.args.all.now.next (Con c.in-Con.c) (map ground_of qs) (ground_of c.args.ground.now) old (map equation_of c.open_con.new.equations.items) opened.at _
    (all_of (map equation_of c.lay_grounds.new.equations.items) c.in_ok-inner-in-Con.inner) (all_of old c.args.all.now) (all_of (map equation_of c.close_con.new.equations.items) c.close_con.new.all)
    (opened.ensures.place ∙ sym (length-map c.args.equations.now.items equation_of)) opened.ensures.equations c.in_ok-inner-in-Con.ensures (ground_term qs _ _ _ c.as_slice.ensures c.in-Con.is) refl)
    c.close_con.ensures

pub lay_grounds-lay_ground-requires : goal.lay_grounds-lay_ground-requires
lay_grounds-lay_ground-requires t c =
    let xs = c.args.grounds.now in
    let i = c.loop-ground.ground-index in
    let x = c.ground-item.result in
    let lt : i < length xs = c.loop-ground-test.true in
    (omega (arith, c.decreases, symbols_within ground_of xs i x lt c.ground-item.is), omega (arith, c.loop-ground.invariant.1, symbols_more ground_of xs i x lt c.ground-item.is))

pub lay_grounds-loop-ground-preserved : goal.lay_grounds-loop-ground-preserved
lay_grounds-loop-ground-preserved t c =
    let a = all_of (map equation_of c.loop-ground.equations.items) c.loop-ground.all in
    let b = all_of (map equation_of c.lay_ground.new.equations.items) c.lay_ground.new.all in
    laid_more c.args.node.now (λ x. elim x [ ]) ground_of c.args.grounds.now c.loop-ground.ground-index c.ground-item.result a b _ _ 65535
    c.loop-ground-test.true c.ground-item.is refl c.in_ok-lay_ground.ensures c.loop-ground.invariant
