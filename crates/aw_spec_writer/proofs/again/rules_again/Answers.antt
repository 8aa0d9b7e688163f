use Rattle.aw_spec_writer.proofs.ReadRules.{read_rules}
use Rattle.aw_spec_writer.proofs.again.rules_again.Goals as goal

pub returns-clause-again : goal.returns-clause-again
returns-clause-again c = read_rules c.read_again.result c.args.s.now c.read_again.ensures.ok
