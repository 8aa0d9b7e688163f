use Rattle.aw_law_nodes.proofs.Mail.{given}
use Rattle.aw_law_journals.proofs.Picking.{join_reaches}
use Rattle.aw_law_journals.proofs.Reaching.{join_is_exact, reach_is_greatest, reach_is_unique}
use Rattle.aw_law_journals.proofs.laws.join_laws.Goals as goal

pub returns-clause-reaches : goal.returns-clause-reaches
returns-clause-reaches c = λ words t g a.
    join_reaches t g (given g (c.world_laws.ensures.invariant words g a) (c.world_laws.ensures.knowledge words g a) (c.world_laws.ensures.homes words g a)) (c.site_laws.ensures.fold g)

pub returns-clause-exact : goal.returns-clause-exact
returns-clause-exact c = λ words t g a.
    join_is_exact t g (given g (c.world_laws.ensures.invariant words g a) (c.world_laws.ensures.knowledge words g a) (c.world_laws.ensures.homes words g a)) (c.site_laws.ensures.fold g)

pub returns-clause-greatest : goal.returns-clause-greatest
returns-clause-greatest c = λ words t g a.
    reach_is_greatest t g (given g (c.world_laws.ensures.invariant words g a) (c.world_laws.ensures.knowledge words g a) (c.world_laws.ensures.homes words g a)) (c.site_laws.ensures.fold g)

pub returns-clause-unique : goal.returns-clause-unique
returns-clause-unique c = λ words t g a.
    reach_is_unique t g (given g (c.world_laws.ensures.invariant words g a) (c.world_laws.ensures.knowledge words g a) (c.world_laws.ensures.homes words g a)) (c.site_laws.ensures.fold g)
