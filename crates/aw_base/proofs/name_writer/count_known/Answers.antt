use Rattle.std.proofs.Common.{◌∙◌, sym, ap, arith, take, rules}
use Rattle.aw_base.proofs.NameFronts.{fronts_same}
use Rattle.aw_base.proofs.name_writer.count_known.Goals as goal

pub returns-clause-same : goal.returns-clause-same
returns-clause-same c j l =
    let common = c.common_steps-common.result in
    fronts_same c.args.written.now.node c.args.n.now common j (search rules) (search rules)
    (ap (take common) (sym c.as_slice.ensures.value) ∙ c.common_steps-common.ensures.same ∙ ap (take common) c.as_slice-2.ensures.value)
    (omega (arith, l, c.min.ensures))
