use Rattle.aw_law_nodes.proofs.Mail.{given}
use Rattle.aw_law_system.proofs.Resting.{quiet_is_at_rest}
use Rattle.aw_law_system.proofs.laws.rest_laws.Goals as goal

pub returns : goal.returns
returns c = record {
  quiet = λ words g a.
      quiet_is_at_rest g (given g (c.world_laws.ensures.invariant words g a) (c.world_laws.ensures.knowledge words g a) (c.world_laws.ensures.homes words g a)) (c.crash_laws.ensures.world g)
      (c.world_laws.ensures.repeats words g a) (c.still_laws.ensures.holds words g a);
}
