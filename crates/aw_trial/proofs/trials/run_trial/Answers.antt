use Rattle.std.proofs.Common.{rules}
use Rattle.aw_trial.proofs.Ends.{ran, no_memory}
use Rattle.aw_trial.proofs.trials.run_trial.Goals as goal

pub returns-in_err-turns : goal.returns-in_err-turns
returns-in_err-turns g c v es S = no_memory _ _ (search rules)

pub returns-in_err-settle : goal.returns-in_err-settle
returns-in_err-settle g c v es S = no_memory _ _ (search rules)

pub returns : goal.returns
returns g c =
    ran g.W.Workspace c.args.world.now c.turns.new.world c.settle.new.world c.args.tally.now c.turns.new.tally 2000 c.count_all.result c.turns.ensures.accepted c.settle.ensures.accepted
    c.in_ok-turns.ensures.does c.in_ok-settle.ensures.settled c.count_all.ensures
