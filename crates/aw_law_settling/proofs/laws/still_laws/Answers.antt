use Rattle.aw_law_settling.proofs.Stillness.{quiet_is_still, still_answers, still_artifacts, still_becomes_quiet, still_holds, still_worklists}
use Rattle.aw_law_settling.proofs.laws.still_laws.Goals as goal

pub returns-clause-quiet : goal.returns-clause-quiet
returns-clause-quiet c = λ words g a. quiet_is_still g (c.world_laws.ensures.invariant words g a) (c.world_laws.ensures.repeats words g a)

pub returns-clause-becomes : goal.returns-clause-becomes
returns-clause-becomes c = λ words g a. still_becomes_quiet g (c.world_laws.ensures.invariant words g a) (c.merge_laws.ensures.bound words g a) (c.merge_laws.ensures.settles g)

pub returns-clause-holds : goal.returns-clause-holds
returns-clause-holds c = λ words g a.
    still_holds g (c.world_laws.ensures.invariant words g a) (c.merge_laws.ensures.bound words g a) (c.merge_laws.ensures.settles g) (c.merge_laws.ensures.headline words g a)

pub returns-clause-answers : goal.returns-clause-answers
returns-clause-answers c = λ words g a.
    still_answers g (c.world_laws.ensures.invariant words g a) (c.merge_laws.ensures.bound words g a) (c.merge_laws.ensures.settles g)
    (c.merge_laws.ensures.quiet words g a) (c.merge_laws.ensures.answers words g a)

pub returns-clause-worklists : goal.returns-clause-worklists
returns-clause-worklists c = λ words g a.
    still_worklists g (c.world_laws.ensures.invariant words g a) (c.merge_laws.ensures.bound words g a) (c.merge_laws.ensures.settles g)
    (c.merge_laws.ensures.quiet words g a) (c.merge_laws.ensures.worklists words g a)

pub returns-clause-artifacts : goal.returns-clause-artifacts
returns-clause-artifacts c = λ words g a.
    still_artifacts g (c.world_laws.ensures.invariant words g a) (c.merge_laws.ensures.bound words g a) (c.merge_laws.ensures.settles g) words (c.merge_laws.ensures.artifacts words g a)
