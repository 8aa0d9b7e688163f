use Rattle.std.proofs.Common.{◌∙◌, ap, arith, option_map}
use Rattle.aw_grammar.specs.declared.rule.Child.{Child}
use Rattle.aw_base.proofs.ChildPlaces.{child_sort}
use Rattle.aw_base.proofs.names.sort_of_child.Goals as goal

pub returns : goal.returns
returns c sorts =
    ap (option_map (λ (k : Child). k.sort)) c.in_ok-child.ensures.value
    ∙ child_sort sorts c.args.children.now c.args.number c.from.result (omega arith)
