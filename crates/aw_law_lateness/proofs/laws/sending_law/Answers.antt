use Rattle.aw_law_lateness.proofs.Alike.{bare_messages_are_the_same}
use Rattle.aw_law_lateness.proofs.laws.sending_law.Goals as goal

pub returns : goal.returns
returns c = record {
  messages = λ words g a. bare_messages_are_the_same words g a (c.learning_laws.ensures.learns words g a) (c.still_laws.ensures.becomes words g a) (c.learning_laws.ensures.asks words g a)
      (c.learning_laws.ensures.works g) (c.world_laws.ensures.invariant words g a)
      (c.still_laws.ensures.quiet words g a) (c.node_laws.ensures.outboxes words g a);
}
