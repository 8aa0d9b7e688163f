use Rattle.aw_law_worlds.proofs.Headlining.{headline_law, events_run}
use Rattle.aw_law_worlds.proofs.OneRoles.{one_role_plain}
use Rattle.aw_law_worlds.proofs.laws.output_laws.Goals as goal

pub returns-clause-headline : goal.returns-clause-headline
returns-clause-headline c w g accepted = headline_law w g accepted

pub returns-clause-plain : goal.returns-clause-plain
returns-clause-plain c w g accepted = one_role_plain w g accepted

pub returns-clause-moves : goal.returns-clause-moves
returns-clause-moves c g = events_run g
