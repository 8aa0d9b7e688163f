use Rattle.std.specs.Cmp.Lexicographic.{pointwise_decides}
use Rattle.std.proofs.lemmas.Bool.Decides.{Decides-at, Decides-eqb}
use Rattle.aw_modular.proofs.join_parts.same_names.Goals as goal

pub returns : goal.returns
returns c = Decides-at c.eq.result _ c.eq.ensures (pointwise_decides (pointwise_decides Decides-eqb) c.args.a.now c.args.b.now)
