use Rattle.aw_trial.proofs.Declares.{one_applied}
use Rattle.aw_trial.proofs.declaring.one_pair.Goals as goal

pub returns : goal.returns
returns c = one_applied c.args.name.now c.args.first.now c.args.second.now c.in_ok-name.name c.in_ok-parts.parts c.one_term.result c.in_ok-name.ensures c.in_ok-parts.ensures c.one_term.ensures
