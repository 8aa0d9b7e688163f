use Rattle.std.proofs.lemmas.Bool.Decides.{Decides-at}
use Rattle.aw_store.proofs.BodyLemmas.{body_exact}
use Rattle.aw_store.proofs.bodies.is_same_body.Goals as goal

pub returns : goal.returns
returns c = Decides-at c.eq.result _ c.eq.ensures (body_exact c.args.a.now c.args.b.now)
