use Rattle.aw_apply.proofs.LayLemmas.{body_set}
use Rattle.aw_apply.proofs.laid.write_body.Goals as goal

pub returns : goal.returns
returns c = body_set c.args.equations.now c.args.at c.index-equations-at.result c.args.body c.requires
