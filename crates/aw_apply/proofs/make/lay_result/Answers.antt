use Rattle.std.proofs.Common.{◌++◌, map, refl, ap, ◌∙◌, arith}
use Rattle.aw_term.specs.Trees.{Con}
use Rattle.aw_term.specs.Rules.{get}
use Rattle.aw_term.specs.Views.{term_of}
use Rattle.aw_store.specs.Equations.{Is}
use Rattle.aw_store.specs.EquationView.{equation_of}
use Rattle.aw_apply.specs.Made.{lay_list, no_ref}
use Rattle.aw_apply.proofs.LayLemmas.{expr_term, symbols_over, if_given, on_given}
use Rattle.aw_apply.proofs.MakeLemmas.{result_equations, result_next}
use Rattle.aw_apply.proofs.make.lay_result.Goals as goal

pub lay_con-requires : goal.lay_con-requires
lay_con-requires c =
    let qs = c.as_slice.result.now in
    omega (arith, c.requires, symbols_over (Con c.in-Con.c) (map term_of qs) _ (expr_term qs _ _ _ c.as_slice.ensures c.in-Con.is))

pub returns-in-Con-clause-equations : goal.returns-in-Con-clause-equations
returns-in-Con-clause-equations c =
    let n = c.args.node.now in
    let f = get (no_ref n) c.args.refs.now in
    let qs = c.as_slice.result.now in
    let l = lay_list n f c.args.k (map term_of qs) in
    let old = map equation_of c.args.equations.now.items in
    on_given c.lay_con.result
    (λ laid. laid ∙ ap (λ z. old ++ z) (result_equations n f c.args.k c.args.j (Con c.in-Con.c) c.in_ok-left.left (Is (Con c.in-Con.c) l.roots)
    (map term_of qs) l _ refl refl c.in_ok-left.ensures (expr_term qs _ _ _ c.as_slice.ensures c.in-Con.is)))
    c.lay_con.ensures.equations

pub returns-in-Con-clause-next : goal.returns-in-Con-clause-next
returns-in-Con-clause-next c =
    let n = c.args.node.now in
    let f = get (no_ref n) c.args.refs.now in
    let qs = c.as_slice.result.now in
    if_given c.lay_con.result (λ next is. is ∙ result_next n f c.args.k c.args.j (Con c.in-Con.c) (map term_of qs)
    (lay_list n f c.args.k (map term_of qs)) _ refl (expr_term qs _ _ _ c.as_slice.ensures c.in-Con.is))
    c.lay_con.ensures.next
