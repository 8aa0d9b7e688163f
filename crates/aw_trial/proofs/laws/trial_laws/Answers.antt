use Rattle.aw_trial.proofs.Replayed.{settles_fresh, are_replayed}
use Rattle.aw_trial.proofs.laws.trial_laws.Goals as goal

pub returns-clause-fresh : goal.returns-clause-fresh
returns-clause-fresh c w g accepted = settles_fresh w g accepted

pub returns-clause-replayed : goal.returns-clause-replayed
returns-clause-replayed c w g accepted = are_replayed w g accepted
