use Rattle.aw_sched.specs.Answers.{event_seen}
use Rattle.aw_replay.specs.Replays.{Underway}
use Rattle.aw_replay.proofs.Tellings.{makes_some, past_limit, tells_more}
use Rattle.aw_replay.proofs.stepwise.Replay.tell.Goals as goal

pub returns-clause-tells : goal.returns-clause-tells
returns-clause-tells g c =
    let new : Underway g.W.Workspace = (c.tell_event.new.world, record { names = c.tell_event.new.names; text = c.tell_event.new.text; report = c.tell_event.new.report }) in
    tells_more g.W.Workspace (c.args.world.now, c.args.self.now) new (event_seen c.args.event.now) c.tell_event.result c.tell_event.ensures.accepted
    c.tell_event.ensures.loads c.tell_event.ensures.does c.tell_event.ensures.prints

pub returns-clause-too_large : goal.returns-clause-too_large
returns-clause-too_large g c large =
    past_limit g.W.Workspace (c.args.world.now, c.args.self.now) (event_seen c.args.event.now) c.tell_event.new.report c.tell_event.result c.tell_event.ensures.prints large

pub returns-clause-some : goal.returns-clause-some
returns-clause-some g c =
    let new : Underway g.W.Workspace = (c.tell_event.new.world, record { names = c.tell_event.new.names; text = c.tell_event.new.text; report = c.tell_event.new.report }) in
    makes_some g.W.Workspace (c.args.world.now, c.args.self.now) new (event_seen c.args.event.now) c.tell_event.result c.tell_event.ensures.some
