use Rattle.aw_plain.proofs.TurnLemmas.{runs_undivided, takes_undivided}
use Rattle.aw_plain.proofs.law.run_laws.Goals as goal

pub returns-clause-taken : goal.returns-clause-taken
returns-clause-taken c g = runs_undivided g

pub returns-clause-whole : goal.returns-clause-whole
returns-clause-whole c g = takes_undivided g
