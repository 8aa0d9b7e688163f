use Rattle.std.proofs.Common.{sym}
use Rattle.aw_journal.specs.EventView.{event_of}
use Rattle.aw_journal.proofs.Fronts.{begins_found}
use Rattle.aw_journal.proofs.searching.begins_at.Goals as goal

pub returns-in-Some-clause-begins : goal.returns-in-Some-clause-begins
returns-in-Some-clause-begins g c file told h =
    let x = c.in-Some.found in
    sym (begins_found file c.args.gate x.1 (event_of x.0) (rw c.in-Some.is at c.in_ok-found.ensures.event) (rw c.in-Some.is at c.in_ok-found.ensures.found file told h))
