use Rattle.aw_book_drive.specs.Driving.{grammar_in, types_in}
use Rattle.aw_book_drive.proofs.Going.{tries-next}
use Rattle.aw_book_drive.proofs.lane_tries.try_next.Goals as goal

pub returns-in_ok-came-in-Some-clause-tries : goal.returns-in_ok-came-in-Some-clause-tries
returns-in_ok-came-in-Some-clause-tries g c = λ v moves d.
    let x = c.args.driver.now in
    tries-next g.W.Workspace (types_in x) (grammar_in x) c.try_event.new.driver v moves c.args.role c.args.lane.now c.in-Some.event c.in-Some.is c.in_ok-came-in-Some.came (c.in_ok-came-in-Some.ensures.tries v moves d)
