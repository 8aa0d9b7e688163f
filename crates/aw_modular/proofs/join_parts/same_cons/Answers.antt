use Rattle.std.specs.Cmp.Lexicographic.{pointwise_decides}
use Rattle.std.proofs.lemmas.Bool.Decides.{Decides-at}
use Rattle.aw_modular.proofs.Sharing.{con_exact}
use Rattle.aw_modular.proofs.join_parts.same_cons.Goals as goal

pub returns : goal.returns
returns c = Decides-at c.eq.result _ c.eq.ensures (pointwise_decides con_exact c.args.a.now c.args.b.now)
