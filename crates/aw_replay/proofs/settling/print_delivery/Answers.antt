use Rattle.aw_law_sites.specs.Worlds as V
use Rattle.aw_list.proofs.Fronts.{on_err_held as on_err}
use Rattle.std.proofs.Common.{inr}
use Rattle.aw_replay.specs.Telling.{StepsOrNot}
use Rattle.aw_replay.proofs.settling.print_delivery.Goals as goal

pub returns-clause-some : goal.returns-clause-some
returns-clause-some g c =
    let made : StepsOrNot g.W.Workspace c.args.world.now c.tell_delivery.new.world (V.Delivers c.args.number) = λ v s. inr (c.in_ok-tell_delivery.ensures.stepped v s) in
    on_err _ made
