use Rattle.std.proofs.Common.{subst}
use Rattle.std.specs.Prelude.{OnOk}
use Rattle.aw_choice.specs.ChoiceView.{choice_of}
use Rattle.aw_choice.specs.declared.choice.Choice.{Choice}
use Rattle.aw_world.specs.WorldView.{plain_of}
use Rattle.aw_trial.specs.Comes.{Does}
use Rattle.aw_trial.specs.Turns.{make_choice}
use Rattle.aw_trial.proofs.choosing.make_choice.Goals as goal

pub returns-clause-does : goal.returns-clause-does
returns-clause-does g c =
    subst (λ (x : Choice). OnOk c.make_counted.result (Does g.W.Workspace c.args.world.now c.args.tally.now c.make_counted.new.world
    c.make_counted.new.tally (make_choice (plain_of c.args.world.now) (choice_of x))))
    c.in_ok-choice.ensures c.make_counted.ensures.does
