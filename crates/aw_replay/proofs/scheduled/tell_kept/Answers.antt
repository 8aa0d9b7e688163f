use Rattle.std.proofs.Common.{rules}
use Rattle.aw_replay.proofs.WhileRead.{kept_past, kept_some, kept_told}
use Rattle.aw_replay.proofs.scheduled.tell_kept.Goals as goal

pub returns-then-is_kept-clause-tells : goal.returns-then-is_kept-clause-tells
returns-then-is_kept-clause-tells g c =
    kept_told g.W.Workspace c.args.kept (c.args.world.now, c.args.replay.now) (c.tell.new.world, c.tell.new.self) c.args.event.now c.tell.result (search rules) c.tell.ensures.tells

pub returns-then-is_kept-clause-too_large : goal.returns-then-is_kept-clause-too_large
returns-then-is_kept-clause-too_large g c large =
    kept_past g.W.Workspace c.args.kept (c.args.world.now, c.args.replay.now) c.args.event.now (search rules) (c.tell.ensures.too_large large)

pub returns-then-is_kept-clause-some : goal.returns-then-is_kept-clause-some
returns-then-is_kept-clause-some g c =
    kept_some g.W.Workspace c.args.kept (c.args.world.now, c.args.replay.now) (c.tell.new.world, c.tell.new.self) c.args.event.now c.tell.result (search rules) c.tell.ensures.some
