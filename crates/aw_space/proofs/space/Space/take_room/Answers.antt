use Rattle.aw_space.proofs.Stills.{all_ready_still, still_then}
use Rattle.aw_space.proofs.space.Space.take_room.Goals as goal

pub returns-in-Ok-clause-ready : goal.returns-in-Ok-clause-ready
returns-in-Ok-clause-ready g c =
    all_ready_still g.F.Facts c.make_all_ready.new.self c.make_known.new.self c.make_known.ensures.still c.make_known.ensures.held c.make_known.ensures.kept c.in_ok-more.more.items
    c.in_ok-more.ensures.ready

pub returns-in-Ok-clause-still : goal.returns-in-Ok-clause-still
returns-in-Ok-clause-still g c = still_then g.F.Facts c.args.self.now c.make_all_ready.new.self c.make_known.new.self c.make_all_ready.ensures.still c.make_known.ensures.still

pub returns-in-Err-clause-still : goal.returns-in-Err-clause-still
returns-in-Err-clause-still g c = still_then g.F.Facts c.args.self.now c.make_all_ready.new.self c.make_known.new.self c.make_all_ready.ensures.still c.make_known.ensures.still
