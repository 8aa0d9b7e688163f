use Rattle.std.proofs.Common.{rules, map, length, ap, refl, subst}
use Rattle.aw_choice.specs.ChoiceView.{choice_of}
use Rattle.aw_world.specs.WorldView.{plain_of, named_by}
use Rattle.aw_trial.specs.Told.{CountsLines}
use Rattle.aw_trial.proofs.Ends.{told_ok, told_failed}
use Rattle.aw_trial.proofs.trials.count_all.Goals as goal

pub returns-in_err-artifacts : goal.returns-in_err-artifacts
returns-in_err-artifacts g c v S =
    told_failed g.W.Workspace c.args.world.now c.args.tally.now v S _ c.count_lines.result c.from_residual.result c.in_err-artifacts.was (search rules) c.count_lines.ensures

pub returns : goal.returns
returns g c v S =
    let w = c.args.world.now in
    let lines = subst (CountsLines (named_by w) (plain_of w) (map choice_of w.taken.items)) c.in_ok-artifacts.was c.count_lines.ensures in
    told_ok g.W.Workspace w c.args.tally.now v S c.in_ok-artifacts.artifacts c.in_ok-artifacts.bytes _ _ lines (ap length c.messages.ensures) refl
