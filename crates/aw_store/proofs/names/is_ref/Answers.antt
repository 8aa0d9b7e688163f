use Rattle.std.proofs.lemmas.Bool.Decides.{same_from_decides}
use Rattle.aw_name.specs.SameRefs.{ref_Decides}
use Rattle.aw_store.proofs.names.is_ref.Goals as goal

pub returns : goal.returns
returns c = same_from_decides _ _ c.is_same_ref.ensures (ref_Decides c.args.a.now c.args.b.now)
