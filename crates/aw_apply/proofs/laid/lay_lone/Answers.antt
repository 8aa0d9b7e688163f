use Rattle.std.proofs.Common.{◌+◌, ◌++◌, ◌∷◌, [], map, ap, ◌∙◌}
use Rattle.aw_term.specs.Names.{part}
use Rattle.aw_store.specs.EquationView.{body_of, equation_of}
use Rattle.aw_apply.proofs.LayLemmas.{on_both, one_more}
use Rattle.aw_apply.proofs.laid.lay_lone.Goals as goal

pub returns : goal.returns
returns c =
    let a = c.args.all.now in
    let old = map equation_of c.args.equations.now.items in
    let b = body_of c.args.body in
    on_both c.add.result
    (one_more (old ++ record { left = part c.args.node.now a.next; body = b } ∷ []) _ a.roots.items _ _ (a.next + 1) c.in_ok-part_of-2.field-0 _ c.in_ok-part_of-2.ensures
    (c.in_ok-add_equation.ensures ∙ ap (λ z. old ++ record { left = z; body = b } ∷ []) c.in_ok-part_of.ensures))
    c.add.ensures.roots c.add.ensures.next
