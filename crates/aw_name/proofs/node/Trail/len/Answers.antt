use Rattle.std.proofs.Common.{◌∙◌, ap, length}
use Rattle.aw_name.specs.Front.{steps_in}
use Rattle.aw_name.proofs.Fronts.{length_in}
use Rattle.aw_name.proofs.node.Trail.len.Goals as goal

pub returns-clause-value : goal.returns-clause-value
returns-clause-value c = length_in (steps_in c.self.inside.rows) c.self.inside.low c.self.invariant.short c.self.invariant.low_is ∙ ap length c.self.view_is
