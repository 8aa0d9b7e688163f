use Rattle.aw_standing.proofs.DueLemmas.{waited}
use Rattle.aw_standing.proofs.record.wait_for.Goals as goal

pub returns-in-Ok-clause-waiting : goal.returns-in-Ok-clause-waiting
returns-in-Ok-clause-waiting c p = waited p c.in-Waits.slot c.args.number c.args.rule c.args.stands c.args.work.now.waiting _ c.in-Waits.is c.in-Ok.ensures.ok
