use Rattle.std.specs.Cmp.Lexicographic.{pointwise_decides}
use Rattle.std.proofs.lemmas.Bool.Decides.{Decides-at}
use Rattle.aw_modular.proofs.Sharing.{triple_exact}
use Rattle.aw_modular.proofs.join_parts.same_declared.Goals as goal

pub returns : goal.returns
returns c = Decides-at c.eq.result _ c.eq.ensures (pointwise_decides triple_exact c.args.a.now c.args.b.now)
