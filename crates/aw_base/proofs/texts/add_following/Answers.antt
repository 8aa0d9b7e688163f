use Rattle.std.proofs.Transfers.{starts_with_trans}
use Rattle.aw_list.proofs.Fronts.{behind, on_err_held}
use Rattle.aw_base.proofs.texts.add_following.Goals as goal

pub returns-in_err-add_ref-clause-err : goal.returns-in_err-add_ref-clause-err
returns-in_err-add_ref-clause-err c =
    on_err_held c.from_residual-in_err-add_ref.result
    (starts_with_trans c.add_ref.new.text c.loop-r.text c.args.text.now (behind c.loop-r.text _ c.push_bytes.new.self c.add_ref.new.text
    c.in_ok-push_bytes.ensures.ok c.in_err-add_ref.ensures.err) c.loop-r.invariant.kept)
