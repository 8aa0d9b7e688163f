use Rattle.std.proofs.Common.{◌≡◌, ◌+◌, length, take}
use Rattle.std.specs.List.{flat_map}
use Rattle.aw_codec.specs.Names.{spelled_ref}
use Rattle.aw_journal.specs.Lengths.{capped}
use Rattle.aw_journal.proofs.lengths.refs_len.Given as goal

abbrev pub invariant-loop-reference : goal.invariant-loop-reference
invariant-loop-reference l = l.count ≡ capped (1 + length (flat_map spelled_ref (take l.reference-index l.refs)))
