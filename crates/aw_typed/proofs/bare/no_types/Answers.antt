use Rattle.std.proofs.Common.{◌∙◌, ap, false, replicate, None}
use Rattle.aw_typed.specs.declared.data.Types.{Types}
use Rattle.aw_typed.proofs.NoTypes.{for_grammar, in_range}
use Rattle.aw_typed.proofs.bare.no_types.Goals as goal

pub returns-clause-sizes : goal.returns-clause-sizes
returns-clause-sizes c =
    let t : Types = record { typed = false; names = c.new.result; shapes = c.in_ok-no_shapes.field-0; carries = c.in_ok-no_carries.field-0 } in
    for_grammar c.args.g.now t (c.in_ok-no_shapes.ensures ∙ ap (λ n. replicate n None) c.len.ensures) (c.in_ok-no_carries.ensures ∙ ap (λ n. replicate n None) c.len-2.ensures)

pub returns-clause-numbers : goal.returns-clause-numbers
returns-clause-numbers c =
    let t : Types = record { typed = false; names = c.new.result; shapes = c.in_ok-no_shapes.field-0; carries = c.in_ok-no_carries.field-0 } in
    in_range c.len.result c.len-2.result t c.in_ok-no_shapes.ensures c.in_ok-no_carries.ensures
