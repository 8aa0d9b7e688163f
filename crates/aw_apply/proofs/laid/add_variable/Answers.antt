use Rattle.std.proofs.Common.{◌++◌, ◌∷◌, [], ap, ◌∙◌}
use Rattle.aw_apply.proofs.LayLemmas.{on_given}
use Rattle.aw_apply.proofs.laid.add_variable.Goals as goal

pub returns-clause-roots : goal.returns-clause-roots
returns-clause-roots c = on_given c.add.result (λ e. e ∙ ap (λ z. c.args.all.now.roots.items ++ z ∷ []) c.in_ok-ref_at.ensures) c.add.ensures.roots
