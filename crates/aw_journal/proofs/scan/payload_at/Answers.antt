use Rattle.std.proofs.Common.{arith}
use Rattle.aw_journal.proofs.Found.{no_room}
use Rattle.aw_journal.proofs.scan.payload_at.Goals as goal

pub returns-then-not-has_front-clause-found : goal.returns-then-not-has_front-clause-found
returns-then-not-has_front-clause-found g c file h within =
    no_room file c.args.gate within (omega (arith, h.size_is, c.has_front.ensures.no c.if-not-has_front.true))
