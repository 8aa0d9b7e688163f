use Rattle.std.proofs.Common.{◌≤◌, List, length, subst}
use Rattle.aw_standing.specs.KeptStates.{HasRoom}
use Rattle.aw_space.specs.Openings.{all_tests}
use Rattle.aw_space.specs.declared.opening.Opening.{Opening}
use Rattle.aw_space.proofs.Stills.{all_named_still, still_then}
use Rattle.aw_space.proofs.space.Space.make_all_ready.Goals as goal

pub returns-in-Ok-clause-ready : goal.returns-in-Ok-clause-ready
returns-in-Ok-clause-ready g c = record {
  ready = all_named_still g.F.Facts c.records_of.new.self c.make_places.new.self c.make_places.ensures.still c.in_ok-more.more.items c.in_ok-more.ensures.ready;
  place = subst (λ (os : List Opening). length os ≤ c.make_places.new.self.held.room) c.as_slice.ensures.value c.in-Ok.ensures.place;
  room = subst (λ (os : List Opening). HasRoom c.make_places.new.self.kept (length os) (all_tests os)) c.as_slice.ensures.value c.in-Ok.ensures.room;
}

pub returns-in-Ok-clause-still : goal.returns-in-Ok-clause-still
returns-in-Ok-clause-still g c = still_then g.F.Facts c.args.self.now c.records_of.new.self c.make_places.new.self c.records_of.ensures.still c.make_places.ensures.still

pub returns-in-Err-clause-still : goal.returns-in-Err-clause-still
returns-in-Err-clause-still g c = still_then g.F.Facts c.args.self.now c.records_of.new.self c.make_places.new.self c.records_of.ensures.still c.make_places.ensures.still
