use Rattle.std.proofs.lemmas.Result.{on_err_weaker}
use Rattle.aw_list.proofs.Fronts.{behind}
use Rattle.aw_codec.proofs.writing.add_refs.Goals as goal

pub returns-clause-err : goal.returns-clause-err
returns-clause-err c =
    on_err_weaker c.add_each_ref.result (behind c.args.text.now _ c.add_byte.new.text c.add_each_ref.new.text c.in_ok-add_byte.ensures.ok) c.add_each_ref.ensures.err
