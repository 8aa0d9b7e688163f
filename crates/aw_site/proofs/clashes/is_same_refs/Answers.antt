use Rattle.std.proofs.Common.{◌∙◌}
use Rattle.aw_space.proofs.CalledAlone.{refs_derived}
use Rattle.aw_site.proofs.clashes.is_same_refs.Goals as goal

pub returns : goal.returns
returns c = c.eq.ensures ∙ refs_derived c.args.a.now c.args.b.now
