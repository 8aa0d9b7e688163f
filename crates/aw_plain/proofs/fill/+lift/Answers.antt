use Rattle.std.proofs.Common.{◌∙◌, ap}
use Rattle.std.proofs.lemmas.Result.{IfOk-weaker}
use Rattle.aw_term.specs.Trees.{Made, join}
use Rattle.aw_term.specs.Trees as P
use Rattle.aw_plain_rows.specs.declared.tree.Tree.{Tree}
use Rattle.aw_plain_rows.specs.TreeView.{values_of}
use Rattle.aw_plain.proofs.FillLemmas.{lift_con}
use Rattle.aw_plain.proofs.fill.+lift.Goals as goal

pub lift-returns-in_ok-lift_all-in-Con : goal.lift-returns-in_ok-lift_all-in-Con
lift-returns-in_ok-lift_all-in-Con t c =
    let v = lift_con _ _ _ _ _ c.in-Con.is c.as_slice.ensures c.in_ok-lift_all-in-Con.ensures in
    IfOk-weaker c.make_con.result _ _ (λ (u : Tree) w. w ∙ ap (λ us. Made (P.Con c.in-Con.c) (join (values_of us))) c.into_vec.ensures ∙ v) c.make_con.ensures
