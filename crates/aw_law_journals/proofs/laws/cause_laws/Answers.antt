use Rattle.aw_law_nodes.proofs.Mail.{given}
use Rattle.aw_law_journals.proofs.Causes.{messages_have_causes}
use Rattle.aw_law_journals.proofs.Orders.{forged_is_not_reached}
use Rattle.aw_law_journals.proofs.laws.cause_laws.Goals as goal

pub returns-clause-forged : goal.returns-clause-forged
returns-clause-forged c = λ words t g a.
    forged_is_not_reached t g (given g (c.world_laws.ensures.invariant words g a) (c.world_laws.ensures.knowledge words g a) (c.world_laws.ensures.homes words g a)) (c.site_laws.ensures.fold g)

pub returns-clause-causes : goal.returns-clause-causes
returns-clause-causes c = λ words t g a.
    messages_have_causes t g (given g (c.world_laws.ensures.invariant words g a) (c.world_laws.ensures.knowledge words g a) (c.world_laws.ensures.homes words g a)) (c.site_laws.ensures.fold g)
