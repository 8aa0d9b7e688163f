use Rattle.std.proofs.lemmas.Result.{on_err_weaker}
use Rattle.aw_list.proofs.Fronts.{behind}
use Rattle.aw_base.proofs.texts.add_refusal.Goals as goal

pub returns-clause-err : goal.returns-clause-err
returns-clause-err c =
    on_err_weaker c.add_ref.result (behind c.args.text.now _ c.push_bytes.new.self c.add_ref.new.text c.in_ok-push_bytes.ensures.ok) c.add_ref.ensures.err
