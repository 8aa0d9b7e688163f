use Rattle.aw_law_lateness.proofs.Traces.{lateness_leaves_no_trace}
use Rattle.aw_law_lateness.proofs.laws.lateness_law.Goals as goal

pub returns : goal.returns
returns c = record {
  trace = λ words g a.
      lateness_leaves_no_trace words g a (c.learning_laws.ensures.learns words g a) (c.still_laws.ensures.becomes words g a)
      (c.world_laws.ensures.homes words g a) (c.still_laws.ensures.answers words g a)
      (c.still_laws.ensures.worklists words g a) (c.still_laws.ensures.artifacts words g a);
}
