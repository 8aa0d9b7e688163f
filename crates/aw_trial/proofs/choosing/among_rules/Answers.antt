use Rattle.std.proofs.lemmas.Option.{slice_get-get_or}
use Rattle.std.proofs.lemmas.Result.{on_ok_weaker}
use Rattle.aw_world.specs.WorldView.{plain_of}
use Rattle.aw_trial.specs.Turns.{develop, among_rules}
use Rattle.aw_trial.proofs.Steps.{drawn_before, rule_drawn}
use Rattle.aw_trial.proofs.choosing.among_rules.Goals as goal

pub returns-clause-does : goal.returns-clause-does
returns-clause-does g c =
    let p = plain_of c.args.world.now in
    on_ok_weaker c.develop.result
    (λ does. drawn_before g.W.Workspace c.args.world.now c.develop.new.world c.args.tally.now c.draw.new.tally c.develop.new.tally
    (develop p c.args.node _) (among_rules p c.args.node c.args.rules.now) c.draw.ensures.drew
    (λ v es. rule_drawn p c.args.node c.args.rules.now c.args.tally.now v es c.draw.result _ c.draw.ensures.below
    (slice_get-get_or c.args.rules.now c.draw.result 0 c.draw.ensures.below) c.draw.ensures.next) does)
    c.develop.ensures.does
