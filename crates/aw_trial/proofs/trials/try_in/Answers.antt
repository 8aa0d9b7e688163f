use Rattle.std.proofs.Common.{refl}
use Rattle.aw_trial.proofs.Ends.{tried}
use Rattle.aw_trial.proofs.trials.try_in.Goals as goal

pub returns : goal.returns
returns g c = tried g.W.Workspace c.args.world.now 2000 c.args.n _ c.run_trial.result refl c.requires.empty c.run_trial.ensures
