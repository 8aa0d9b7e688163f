use Rattle.aw_accept.proofs.UndividedRuns.{acyclic_runs}
use Rattle.aw_accept.proofs.laws.acyclic_over.Goals as goal

pub returns : goal.returns
returns h c g given closed accepted = acyclic_runs g given h.R.Related.relates closed accepted
