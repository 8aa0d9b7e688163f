use Rattle.std.proofs.Common.{rules, ◌≡◌, sym, subst}
use Rattle.aw_run.specs.Scheduled.{TellsLeft}
use Rattle.aw_run.specs.declared.words.Telling.TheVariants.{Replayed, Undivided}
use Rattle.aw_run.proofs.schedule.tell_left.Goals as goal

pub returns-in-Undivided : goal.returns-in-Undivided
returns-in-Undivided c =
    let is : c.args.telling ≡ Undivided = search rules in
    subst (λ telling. TellsLeft telling c.args.accepted.now c.args.loads c.args.reader.now c.run_schedule.result) (sym is)
    c.run_schedule.ensures

pub returns-in-Replayed : goal.returns-in-Replayed
returns-in-Replayed c =
    let is : c.args.telling ≡ Replayed = search rules in
    subst (λ telling. TellsLeft telling c.args.accepted.now c.args.loads c.args.reader.now c.replay_left.result) (sym is)
    c.replay_left.ensures
