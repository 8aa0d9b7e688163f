use Rattle.aw_spec_writer.proofs.BackRules.{same_rule, same_rules}
use Rattle.aw_spec_writer.proofs.again.same_rules.Goals as goal

pub returns-clause-rule : goal.returns-clause-rule
returns-clause-rule c = same_rule

pub returns-clause-rules : goal.returns-clause-rules
returns-clause-rules c = same_rules
