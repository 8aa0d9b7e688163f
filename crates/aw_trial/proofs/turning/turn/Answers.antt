use Rattle.std.proofs.Common.{ap}
use Rattle.std.proofs.lemmas.Result.{on_ok_weaker}
use Rattle.aw_world.specs.WorldView.{plain_of}
use Rattle.aw_trial.specs.Turns.{turn_on, turn}
use Rattle.aw_trial.specs.Draws.{drew}
use Rattle.aw_trial.proofs.Steps.{drawn_before}
use Rattle.aw_trial.proofs.turning.turn.Goals as goal

pub returns-clause-does : goal.returns-clause-does
returns-clause-does g c =
    let p = plain_of c.args.world.now in
    on_ok_weaker c.turn_on.result
    (λ does. drawn_before g.W.Workspace c.args.world.now c.turn_on.new.world c.args.tally.now c.draw-what.new.tally c.turn_on.new.tally (turn_on p c.draw-what.result) (turn p) c.draw-what.ensures.drew
    (λ v es. ap (λ d. turn_on p d (record { world = v; tally = drew c.args.tally.now; events = es })) c.draw-what.ensures.next) does)
    c.turn_on.ensures.does
