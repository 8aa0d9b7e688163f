use Rattle.aw_law_settling.proofs.Fairness.{fair_delivery_settles}
use Rattle.aw_law_settling.proofs.laws.fair_law.Goals as goal

pub returns : goal.returns
returns c = record {
  settles = λ words g a.
      fair_delivery_settles g (c.world_laws.ensures.invariant words g a) (c.merge_laws.ensures.bound words g a)
      (c.world_laws.ensures.repeats words g a) (c.merge_laws.ensures.quiet words g a) (c.merge_laws.ensures.answers words g a);
}
