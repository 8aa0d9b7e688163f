use Rattle.aw_sched.proofs.Reading.{node_again}
use Rattle.aw_sched.proofs.printed.printed_node_is_read.Goals as goal

pub returns : goal.returns
returns c = node_again
