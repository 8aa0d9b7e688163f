use Rattle.std.proofs.Common.{◌∙◌, arith}
use Rattle.aw_name.specs.declared.node.Step.{Step}
use Rattle.aw_name.proofs.Fronts.{at_place, small_at, past, none_at}
use Rattle.aw_name.proofs.node.number_at.Goals as goal

abbrev none : Step
none = record { rule = 0; child = 0 }

pub returns-then-at-steps-clause-value : goal.returns-then-at-steps-clause-value
returns-then-at-steps-clause-value c = c.number_of.ensures.value ∙ at_place c.args.steps.now c.args.at none (omega arith)

pub returns-then-at-steps-clause-small : goal.returns-then-at-steps-clause-small
returns-then-at-steps-clause-small c = small_at c.args.steps.now c.args.at none (omega arith) c.number_of.ensures.small

pub returns-clause-value : goal.returns-clause-value
returns-clause-value c = past c.args.steps.now c.args.at (omega arith)

pub returns-clause-small : goal.returns-clause-small
returns-clause-small c = none_at c.args.steps.now c.args.at (omega arith)
