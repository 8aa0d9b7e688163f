use Rattle.aw_space.proofs.Waking.{told_on}
use Rattle.aw_space.proofs.learning.learn_sure.Goals as goal

pub returns-clause-map : goal.returns-clause-map
returns-clause-map g c = told_on _ _ c.args.e c.in-Ok.told c.in-Ok.ensures.added

pub returns-clause-ready : goal.returns-clause-ready
returns-clause-ready g c = c.tell.ensures.ready c.requires.ready
