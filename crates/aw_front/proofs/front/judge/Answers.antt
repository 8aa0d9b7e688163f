use Rattle.aw_front.proofs.FrontOutputs.{front-circular}
use Rattle.aw_front.proofs.front.judge.Goals as goal

pub returns-in-Ok : goal.returns-in-Ok
returns-in-Ok c = (c.in-Ok.ensures.accepted, c.in-Ok.ensures.sound)

pub returns-in_ok-not_accepted-in-Err : goal.returns-in_ok-not_accepted-in-Err
returns-in_ok-not_accepted-in-Err c = λ s same. front-circular _ c.in-Err.refused s c.args.grammar same c.in-Err.ensures.circular c.in_ok-not_accepted-in-Err.ensures
