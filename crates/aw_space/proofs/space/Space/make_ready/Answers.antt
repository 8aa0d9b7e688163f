use Rattle.std.proofs.Common.{subst}
use Rattle.aw_standing.specs.KeptStates.{HasRoom}
use Rattle.aw_space.proofs.Stills.{named_still, still_then}
use Rattle.aw_space.proofs.space.Space.make_ready.Goals as goal

pub returns-in-Ok-clause-ready : goal.returns-in-Ok-clause-ready
returns-in-Ok-clause-ready g c =
    let room = subst (HasRoom c.make_place.new.self.kept 1) c.rule_count.ensures c.in-Ok.ensures.room in
    (named_still g.F.Facts c.record_of.new.self c.make_place.new.self c.make_place.ensures.still c.in_ok-new.new c.in_ok-new.ensures.ready, c.in-Ok.ensures.place, room)

pub returns-in-Ok-clause-still : goal.returns-in-Ok-clause-still
returns-in-Ok-clause-still g c = still_then g.F.Facts c.args.self.now c.record_of.new.self c.make_place.new.self c.record_of.ensures.still c.make_place.ensures.still

pub returns-in-Err-clause-still : goal.returns-in-Err-clause-still
returns-in-Err-clause-still g c = still_then g.F.Facts c.args.self.now c.record_of.new.self c.make_place.new.self c.record_of.ensures.still c.make_place.ensures.still
