use Rattle.std.proofs.lemmas.Result.{on_err_weaker}
use Rattle.aw_list.proofs.Fronts.{behind}
use Rattle.aw_base.proofs.texts.add_ref.Goals as goal

pub returns-clause-err : goal.returns-clause-err
returns-clause-err c =
    on_err_weaker c.add_slot.result (behind c.args.text.now _ c.push_node.new.text c.add_slot.new.text c.in_ok-push_node.ensures.ok) c.add_slot.ensures.err
