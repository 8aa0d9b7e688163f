use Rattle.std.proofs.Common.{subst}
use Rattle.aw_name.specs.Front.{IsSmallLead}
use Rattle.aw_name.proofs.node.Trail.front.Goals as goal

pub returns-clause-small : goal.returns-clause-small
returns-clause-small c = subst IsSmallLead c.self.view_is c.self.invariant.small
