use Rattle.std.proofs.Common.{arith}
use Rattle.aw_journal.proofs.Fronts.{no_room}
use Rattle.aw_journal.proofs.records.front_at.Goals as goal

pub returns-then-not-has_front-clause-found : goal.returns-then-not-has_front-clause-found
returns-then-not-has_front-clause-found g c file told h = no_room file c.args.gate (omega (arith, h.below, c.has_front.ensures.no c.if-not-has_front.true))
