use Rattle.aw_law_nodes.proofs.Mail.{given}
use Rattle.aw_law_journals.proofs.Orders.{order_leaves_no_trace}
use Rattle.aw_law_journals.proofs.Reaching.{sites_are_journals}
use Rattle.aw_law_journals.proofs.laws.order_laws.Goals as goal

pub returns-clause-sites : goal.returns-clause-sites
returns-clause-sites c = λ words t g a.
    sites_are_journals t g (given g (c.world_laws.ensures.invariant words g a) (c.world_laws.ensures.knowledge words g a) (c.world_laws.ensures.homes words g a)) (c.site_laws.ensures.fold g)

pub returns-clause-trace : goal.returns-clause-trace
returns-clause-trace c = λ words t g a.
    order_leaves_no_trace t g (given g (c.world_laws.ensures.invariant words g a) (c.world_laws.ensures.knowledge words g a)
    (c.world_laws.ensures.homes words g a)) (c.site_laws.ensures.fold g) (c.site_laws.ensures.refusals g)
