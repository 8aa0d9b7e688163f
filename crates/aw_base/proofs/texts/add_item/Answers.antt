use Rattle.std.proofs.lemmas.Result.{on_err_weaker}
use Rattle.aw_list.proofs.Fronts.{behind}
use Rattle.aw_base.proofs.texts.add_item.Goals as goal

pub returns-clause-err : goal.returns-clause-err
returns-clause-err c =
    let new = c.add_standing.new.text in
    on_err_weaker c.add_standing.result
    (λ h. behind c.args.text.now _ c.push_item_front.new.text new c.in_ok-push_item_front.ensures.ok
    (behind c.push_item_front.new.text _ c.push_bytes.new.self new c.in_ok-push_bytes.ensures.ok h))
    c.add_standing.ensures.err
