use Rattle.std.proofs.Common.{◌∷◌, [], ◌++◌, length, ap, ◌∙◌}
use Rattle.std.specs.List.{flat_map}
use Rattle.std.specs.Int.{w16, w64, to_be_bytes}
use Rattle.std.proofs.lemmas.Result.{on_ok_weaker, on_err_weaker}
use Rattle.aw_list.proofs.Fronts.{behind}
use Rattle.aw_codec.specs.Names.{spelled_step}
use Rattle.aw_codec.proofs.Adding.{two}
use Rattle.aw_codec.proofs.writing.add_node.Goals as goal

pub returns-clause-ok : goal.returns-clause-ok
returns-clause-ok c =
    let n = c.args.node.now in
    let old = c.args.text.now in
    let a = to_be_bytes w16 n.start in
    let b = to_be_bytes w64 n.case in
    let steps = flat_map spelled_step n.steps in
    on_ok_weaker c.add_steps.result
    (λ e. two old a (b ++ (length n.steps ∷ steps)) c.add_u16.new.text c.add_steps.new.text c.in_ok-add_u16.ensures.ok
    (two c.add_u16.new.text b (length n.steps ∷ steps) c.add_u64.new.text c.add_steps.new.text c.in_ok-add_u64.ensures.ok
    (two c.add_u64.new.text (length n.steps ∷ []) steps c.add_byte.new.text c.add_steps.new.text (c.in_ok-add_byte.ensures.ok ∙ ap (λ k. c.add_u64.new.text ++ k ∷ []) c.len.ensures.value)
    (e ∙ ap (λ ss. c.add_byte.new.text ++ flat_map spelled_step ss) c.as_slice.ensures.value))))
    c.add_steps.ensures.ok

pub returns-clause-err : goal.returns-clause-err
returns-clause-err c =
    let new = c.add_steps.new.text in
    on_err_weaker c.add_steps.result
    (λ h. behind c.args.text.now _ c.add_u16.new.text new c.in_ok-add_u16.ensures.ok
    (behind c.add_u16.new.text _ c.add_u64.new.text new c.in_ok-add_u64.ensures.ok
    (behind c.add_u64.new.text _ c.add_byte.new.text new c.in_ok-add_byte.ensures.ok h)))
    c.add_steps.ensures.err
