use Rattle.std.proofs.Common.{sym, subst}
use Rattle.aw_list.proofs.Fronts.{on_err_held as on_err}
use Rattle.aw_replay.specs.Replays.{Replays}
use Rattle.aw_replay.proofs.WhileRead.{all_made, some_made, stopped, whole_told}
use Rattle.aw_replay.proofs.scheduled.replay_schedule.Goals as goal

pub returns-in-Ok-clause-replays : goal.returns-in-Ok-clause-replays
returns-in-Ok-clause-replays g c =
    let whole = c.finish.ensures in
    subst (Replays g.W.Workspace c.args.kept c.args.reader.now c.args.world.now c.tell_left.new.world) (sym whole.2)
    (whole_told g.W.Workspace c.args.kept c.args.reader.now c.tell_left.new.reader (c.args.world.now, c.new-replay.result) (
      c.tell_left.new.world,
      c.tell_left.new.replay,
    ) c.new-replay.ensures.told c.in-Ok.ensures.tells whole.0 whole.1)

pub returns-in-Ok-clause-some : goal.returns-in-Ok-clause-some
returns-in-Ok-clause-some g c =
    on_err _ (all_made g.W.Workspace c.args.kept c.args.reader.now c.tell_left.new.reader (c.args.world.now, c.new-replay.result)
    (c.tell_left.new.world, c.tell_left.new.replay) c.new-replay.ensures.told c.in-Ok.ensures.tells)

pub returns-in-Err-clause-replays : goal.returns-in-Err-clause-replays
returns-in-Err-clause-replays g c =
    stopped g.W.Workspace c.args.kept c.args.reader.now c.tell_left.new.reader (c.args.world.now, c.new-replay.result) (c.tell_left.new.world, c.tell_left.new.replay) c.new-replay.ensures.told
    c.tell_left.ensures.grammar c.tell_left.ensures.typed c.in-Err.fault c.fault_with_left.result c.in-Err.ensures.tells c.fault_with_left.ensures

pub returns-in-Err-clause-some : goal.returns-in-Err-clause-some
returns-in-Err-clause-some g c =
    some_made g.W.Workspace c.args.kept c.args.reader.now c.tell_left.new.reader (c.args.world.now, c.new-replay.result) (
      c.tell_left.new.world,
      c.tell_left.new.replay,
    ) c.new-replay.ensures.told c.in-Err.ensures.some
