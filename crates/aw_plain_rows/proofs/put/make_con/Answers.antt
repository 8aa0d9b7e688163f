use Rattle.std.proofs.Common.{ap, sym, ◌∙◌, map, false}
use Rattle.std.specs.declared.vec.Vec.{Vec}
use Rattle.std.specs.declared.alloc.Global.{Global}
use Rattle.aw_term.specs.Trees.{Made, join}
use Rattle.aw_term.specs.Trees as P
use Rattle.aw_plain_rows.specs.declared.tree.Tree.{Tree}
use Rattle.aw_plain_rows.specs.TreeView.{value_under, values_of}
use Rattle.aw_plain_rows.proofs.ViewLemmas.{value_con}
use Rattle.aw_plain_rows.proofs.put.make_con.Goals as goal

pub returns : goal.returns
returns c =
    let w = c.are_whole-whole.result in
    value_con false c.args.con w c.in_ok-new.field-0
    ∙ ap (λ (ts : Vec Tree Global). Made (P.Con c.args.con) (join (map (value_under w) ts.items))) c.in_ok-new.ensures.ok
    ∙ ap (λ ts. Made (P.Con c.args.con) (join (map (value_under w) ts))) (sym c.as_slice.ensures.value)
    ∙ ap (λ vs. Made (P.Con c.args.con) (join vs)) c.are_whole-whole.ensures
    ∙ ap (λ ts. Made (P.Con c.args.con) (join (values_of ts))) c.as_slice.ensures.value
