use Rattle.std.proofs.Common.{◌∙◌, ap}
use Rattle.std.proofs.lemmas.Result.{IfOk-weaker}
use Rattle.aw_term.specs.Trees.{Made, join}
use Rattle.aw_term.specs.Trees as P
use Rattle.aw_plain_rows.specs.declared.tree.Tree.{Tree}
use Rattle.aw_plain_rows.specs.TreeView.{values_of}
use Rattle.aw_plain.proofs.FillLemmas.{fill_con}
use Rattle.aw_plain.proofs.fill.+fill.Goals as goal

pub fill-returns-in_ok-fill_all-in-Con : goal.fill-returns-in_ok-fill_all-in-Con
fill-returns-in_ok-fill_all-in-Con t c =
    let v = fill_con (values_of c.args.env.now) _ _ _ _ _ c.in-Con.is c.as_slice.ensures c.in_ok-fill_all-in-Con.ensures in
    IfOk-weaker c.make_con.result _ _ (λ (u : Tree) w. w ∙ ap (λ us. Made (P.Con c.in-Con.c) (join (values_of us))) c.into_vec.ensures ∙ v) c.make_con.ensures
