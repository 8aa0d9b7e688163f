use Rattle.aw_run.proofs.Endings.{one-reply}
use Rattle.aw_run.proofs.OneOutputs.{one-output}
use Rattle.aw_run.proofs.law.outputs_are_one.Goals as goal

pub returns : goal.returns
returns g c = record { outputs = one-output; replies = one-reply g.W.Wire g.D.Disk }
