use Rattle.std.proofs.Common.{◌≡◌, replicate, None}
use Rattle.aw_typed.proofs.bare.no_shapes.Given as goal

abbrev pub invariant-loop : goal.invariant-loop
invariant-loop l = l.shapes ≡ replicate l.counter None
