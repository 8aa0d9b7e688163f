use Rattle.std.proofs.Common.{◌≡◌, replicate, None}
use Rattle.aw_typed.proofs.bare.no_carries.Given as goal

abbrev pub invariant-loop : goal.invariant-loop
invariant-loop l = l.carries ≡ replicate l.counter None
