use Rattle.aw_law_lateness.proofs.Alike.{calls_are_the_same, loads_ask_no_more, open_questions_are_the_same}
use Rattle.aw_law_lateness.proofs.laws.asking_law.Goals as goal

pub returns-clause-questions : goal.returns-clause-questions
returns-clause-questions c = λ words g a. open_questions_are_the_same words g a (c.learning_laws.ensures.learns words g a) (c.still_laws.ensures.becomes words g a)
    (c.learning_laws.ensures.asks words g a) (c.learning_laws.ensures.works g) (c.world_laws.ensures.invariant words g a)

pub returns-clause-calls : goal.returns-clause-calls
returns-clause-calls c = λ words g a. calls_are_the_same words g a (c.learning_laws.ensures.learns words g a) (c.still_laws.ensures.becomes words g a)
    (c.learning_laws.ensures.asks words g a) (c.learning_laws.ensures.works g) (c.world_laws.ensures.invariant words g a)

pub returns-clause-fewer : goal.returns-clause-fewer
returns-clause-fewer c = λ words g a. loads_ask_no_more words g a (c.learning_laws.ensures.learns words g a) (c.still_laws.ensures.becomes words g a)
    (c.learning_laws.ensures.asks words g a) (c.learning_laws.ensures.works g) (c.world_laws.ensures.invariant words g a)
