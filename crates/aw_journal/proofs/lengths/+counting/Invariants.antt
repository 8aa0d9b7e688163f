use Rattle.std.proofs.Common.{◌≡◌, ◌+◌, length, take}
use Rattle.std.specs.List.{flat_map}
use Rattle.aw_term.specs.Views.{ground_of}
use Rattle.aw_codec.specs.Grounds.{spelled_ground}
use Rattle.aw_journal.specs.Lengths.{capped}
use Rattle.aw_journal.proofs.lengths.+counting.Given as goal

abbrev pub invariant-each_len-loop-ground : goal.invariant-each_len-loop-ground
invariant-each_len-loop-ground l = l.count ≡ capped (0 + length (flat_map (λ g. spelled_ground (ground_of g)) (take l.ground-index l.grounds)))
