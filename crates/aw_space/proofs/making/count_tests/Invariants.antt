use Rattle.std.proofs.Common.{◌≡◌, take}
use Rattle.aw_space.specs.Openings.{all_tests}
use Rattle.aw_space.proofs.making.count_tests.Given as goal

abbrev pub invariant-loop-opening : goal.invariant-loop-opening
invariant-loop-opening l = l.total ≡ all_tests (take l.opening-index l.more)
