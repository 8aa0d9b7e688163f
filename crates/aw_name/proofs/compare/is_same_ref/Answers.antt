use Rattle.aw_name.specs.SameRefs.{ref_exact}
use Rattle.aw_name.proofs.compare.is_same_ref.Goals as goal

pub returns : goal.returns
returns c = ref_exact c.args.r.now c.args.s.now c.eq.result c.eq.ensures
