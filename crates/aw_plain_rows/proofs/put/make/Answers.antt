use Rattle.std.proofs.Common.{◌≡◌, ◌-◌, ◌++◌, ◌∷◌, [], length, ap, ◌∙◌, arith}
use Rattle.aw_term.specs.Trees.{Made, join}
use Rattle.aw_term.specs.Trees as P
use Rattle.aw_plain_rows.specs.TreeView.{values_of}
use Rattle.aw_plain_rows.proofs.JobLemmas.{made_values}
use Rattle.aw_plain_rows.proofs.put.make.Goals as goal

pub returns : goal.returns
returns c =
    let ts = c.args.values.now.items in
    let k = c.saturating_sub-at.result in
    let t = c.in_ok-make_con.field-0 in
    let e : k ≡ length ts - c.args.n = omega (arith, c.saturating_sub-at.ensures, c.len.ensures, c.args.values.now.ok.0) in
    let v = c.in_ok-make_con.ensures ∙ ap (λ us. Made (P.Con c.args.con) (join (values_of us))) c.in_ok-parts.ensures.tail in
    ap values_of (c.in_ok-push.ensures.items ∙ ap (λ us. us ++ t ∷ []) c.in_ok-parts.ensures.items)
    ∙ made_values c.args.con c.args.n k ts t e v
