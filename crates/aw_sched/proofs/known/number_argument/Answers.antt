use Rattle.aw_sched.proofs.ReadArguments.{number_read}
use Rattle.aw_sched.proofs.known.number_argument.Goals as goal

pub returns-in-Some : goal.returns-in-Some
returns-in-Some c cons depth room left some e = number_read cons depth room left c.in-Some.number c.args.bytes.now c.in-Some.rest.now some e c.in-Some.ensures
