use Rattle.aw_iograph.proofs.FewOf.{few_of, small_of, declared_of}
use Rattle.aw_wait.proofs.seed.kept_rule.Goals as goal

pub returns-clause-few : goal.returns-clause-few
returns-clause-few c = (small_of c.args.g.now.sorts c.at.result.now (few_of c.args.g.now c.args.rule c.at.result.now c.at.ensures)).patterns

pub returns-clause-declared : goal.returns-clause-declared
returns-clause-declared c = declared_of c.args.g.now c.args.rule c.at.result.now c.at.ensures
