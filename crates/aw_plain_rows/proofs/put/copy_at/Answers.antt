use Rattle.std.proofs.Common.{◌∙◌}
use Rattle.std.proofs.lemmas.Result.{IfOk-weaker}
use Rattle.aw_plain_rows.specs.declared.tree.Tree.{Tree}
use Rattle.aw_plain_rows.proofs.JobLemmas.{got_at, got_past}
use Rattle.aw_plain_rows.proofs.put.copy_at.Goals as goal

pub returns-in-Some : goal.returns-in-Some
returns-in-Some c =
    let h = c.in-Some.ensures.lookup in
    IfOk-weaker c.copy_tree.result _ _ (λ (t : Tree) e. e ∙ got_at c.args.trees.now c.args.at c.in-Some.t.now h.3.0 h.1) c.copy_tree.ensures

pub returns-in-None : goal.returns-in-None
returns-in-None c = got_past c.args.trees.now c.args.at c.in-None.ensures.lookup.3
