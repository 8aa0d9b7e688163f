use Rattle.std.proofs.lemmas.Result.{on_err_weaker}
use Rattle.aw_list.proofs.Fronts.{behind}
use Rattle.aw_base.proofs.texts.add_node.Goals as goal

pub returns-clause-err : goal.returns-clause-err
returns-clause-err c =
    let new = c.add_steps.new.text in
    on_err_weaker c.add_steps.result
    (λ h. behind c.args.text.now _ c.push_bytes.new.self new c.in_ok-push_bytes.ensures.ok
    (behind c.push_bytes.new.self _ c.push.new.self new c.in_ok-push.ensures.ok
    (behind c.push.new.self _ c.push_number.new.text new c.in_ok-push_number.ensures.ok h)))
    c.add_steps.ensures.err
