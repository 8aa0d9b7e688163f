use Rattle.std.proofs.Common.{refl, inl}
use Rattle.aw_law_lateness.proofs.worked.worked_loads.Goals as goal

pub returns-clause-quiet : goal.returns-clause-quiet
returns-clause-quiet c = (refl, refl)

pub returns-clause-tasks : goal.returns-clause-tasks
returns-clause-tasks c = (refl, refl, refl, refl)

pub returns-clause-calls : goal.returns-clause-calls
returns-clause-calls c = ((_, inl refl), (_, inl refl))

pub returns-clause-less : goal.returns-clause-less
returns-clause-less c = (refl, refl)
