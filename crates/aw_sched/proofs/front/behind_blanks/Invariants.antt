use Rattle.std.proofs.Common.{[], length}
use Rattle.aw_sched.specs.ByteArguments.{SaysBefore}
use Rattle.aw_sched.proofs.front.behind_blanks.Given as goal

abbrev pub invariant-loop-rest : goal.invariant-loop-rest
invariant-loop-rest l = SaysBefore l.bytes [] l.rest

abbrev pub decreases-loop-rest : goal.decreases-loop-rest
decreases-loop-rest l = length l.rest
