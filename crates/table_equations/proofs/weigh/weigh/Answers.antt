use Rattle.table_equations.proofs.Patterns.{patterns_shallow, patterns_narrow}
use Rattle.table_equations.proofs.weigh.weigh.Goals as goal

pub guard-requires-clause-shallow : goal.guard-requires-clause-shallow
guard-requires-clause-shallow g c = patterns_shallow c.args.g.now c.in-Some.rule.now c.in-Some.ensures.fits

pub guard-requires-clause-room : goal.guard-requires-clause-room
guard-requires-clause-room g c = patterns_narrow c.args.g.now c.in-Some.rule.now c.in-Some.ensures.fits
