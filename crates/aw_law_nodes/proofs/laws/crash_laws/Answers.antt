use Rattle.aw_law_nodes.proofs.Seen.{sites_are_their_events}
use Rattle.aw_law_nodes.proofs.KeptNodes.{kept_events}
use Rattle.aw_law_nodes.proofs.Seen.{crashes_leave_a_world, invariant_after_crashes}
use Rattle.aw_law_nodes.proofs.laws.crash_laws.Goals as goal

pub returns-clause-world : goal.returns-clause-world
returns-clause-world c = λ g loads. crashes_leave_a_world g loads

pub returns-clause-own : goal.returns-clause-own
returns-clause-own c = λ g loads. sites_are_their_events g loads

pub returns-clause-invariant : goal.returns-clause-invariant
returns-clause-invariant c = λ words g a. invariant_after_crashes g (c.world_laws.ensures.invariant words g a)

pub returns-clause-kept : goal.returns-clause-kept
returns-clause-kept c = λ g. kept_events g
