use Rattle.aw_trial.specs.Counts.{trial}
use Rattle.aw_trial.proofs.Ends.{told_summary, told_within, told_too_large}
use Rattle.aw_trial.proofs.trials.trial.Goals as goal

pub returns-clause-summary : goal.returns-clause-summary
returns-clause-summary c = told_summary (trial c.args.n) c.try_once.result c.try_once.ensures

pub returns-clause-within : goal.returns-clause-within
returns-clause-within c = told_within (trial c.args.n) c.try_once.result c.try_once.ensures

pub returns-clause-too_large : goal.returns-clause-too_large
returns-clause-too_large c = told_too_large (trial c.args.n) c.try_once.result c.try_once.ensures
