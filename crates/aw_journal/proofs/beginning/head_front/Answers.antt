use Rattle.std.proofs.Common.{◌≤◌, length, arith}
use Rattle.aw_journal.proofs.Beginnings.{front_past}
use Rattle.aw_journal.proofs.beginning.head_front.Goals as goal

pub returns-then-count-end-clause-none : goal.returns-then-count-end-clause-none
returns-then-count-end-clause-none c _ file size front_is =
    let long : 11 ≤ length c.args.front.now = omega arith in
    front_past file c.args.front.now front_is long c.number_in-count.result c.number_in-count.ensures.value (omega (arith, c.if-count-end.true, size, c.requires))
