use Rattle.aw_law_kept_system.proofs.Serving.{kept_nodes_are_a_system, kept_nodes_are_one_world}
use Rattle.aw_law_kept_system.proofs.laws.kept_system_laws.Goals as goal

pub returns-clause-system : goal.returns-clause-system
returns-clause-system g c = kept_nodes_are_a_system g.D.Disk c.site_laws.ensures.refusals c.kept_sites.ensures.runs

pub returns-clause-world : goal.returns-clause-world
returns-clause-world g c = λ r accepted.
    kept_nodes_are_one_world g.D.Disk c.site_laws.ensures.refusals c.kept_sites.ensures.runs r (c.system_laws.ensures.world r.words r.grammar accepted)
