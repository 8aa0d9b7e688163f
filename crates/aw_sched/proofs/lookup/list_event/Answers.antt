use Rattle.aw_grammar.specs.GrammarOf.{words_of}
use Rattle.aw_sched.proofs.LineLaws.{list_good, list_unknown}
use Rattle.aw_sched.proofs.LookedUp.{named_within}
use Rattle.aw_sched.proofs.lookup.list_event.Goals as goal

pub returns-in-Some-clause-gives : goal.returns-in-Some-clause-gives
returns-in-Some-clause-gives c = list_good c.args.g.now c.args.role.now c.in-Some.role c.in-Some.ensures

pub returns-in-Some-clause-fits : goal.returns-in-Some-clause-fits
returns-in-Some-clause-fits c = named_within (words_of c.args.g.now).roles c.args.role.now c.in-Some.role c.in-Some.ensures

pub returns-in-None-clause-gives : goal.returns-in-None-clause-gives
returns-in-None-clause-gives c = list_unknown c.args.g.now c.args.role.now c.in-None.ensures
