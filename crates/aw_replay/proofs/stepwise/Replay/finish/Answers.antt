use Rattle.aw_replay.proofs.Tellings.{ends_either, has_headline}
use Rattle.aw_replay.proofs.stepwise.Replay.finish.Goals as goal

pub returns-clause-ends : goal.returns-clause-ends
returns-clause-ends g c = ends_either g.W.Workspace (c.args.world.now, c.args.self) c.print_ended.result c.print_ended.ensures

pub returns-clause-headline : goal.returns-clause-headline
returns-clause-headline g c = has_headline g.W.Workspace (c.args.world.now, c.args.self)
