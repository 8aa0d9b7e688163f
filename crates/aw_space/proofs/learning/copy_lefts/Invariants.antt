use Rattle.std.proofs.Common.{◌≡◌, map, take}
use Rattle.aw_space.specs.Waking.{left_of}
use Rattle.aw_space.proofs.learning.copy_lefts.Given as goal

abbrev pub invariant-loop-e : goal.invariant-loop-e
invariant-loop-e l = l.lefts.items ≡ map left_of (take l.e-index l.es)
