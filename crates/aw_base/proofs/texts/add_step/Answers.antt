use Rattle.std.proofs.lemmas.Result.{on_err_weaker}
use Rattle.aw_list.proofs.Fronts.{behind}
use Rattle.aw_base.proofs.texts.add_step.Goals as goal

pub returns-clause-err : goal.returns-clause-err
returns-clause-err c =
    let new = c.add_child.new.text in
    on_err_weaker c.add_child.result
    (λ h. behind c.args.text.now _ c.push.new.self new c.in_ok-push.ensures.ok
    (behind c.push.new.self _ c.push_bytes.new.self new c.in_ok-push_bytes.ensures.ok h))
    c.add_child.ensures.err
