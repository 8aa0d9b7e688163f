use Rattle.std.proofs.Common.{◌≡◌, take}
use Rattle.aw_replay.specs.Seated.{all_seated}
use Rattle.aw_replay.proofs.copies.all_seated.Given as goal

abbrev pub invariant-loop-sort : goal.invariant-loop-sort
invariant-loop-sort l = l.copies ≡ all_seated (take l.sort-index l.sorts)
