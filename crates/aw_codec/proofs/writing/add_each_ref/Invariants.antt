use Rattle.std.proofs.Common.{◌≡◌, ◌++◌, take}
use Rattle.std.specs.List.{flat_map}
use Rattle.aw_codec.specs.Names.{spelled_ref}
use Rattle.aw_term.specs.WellFormed.{Each}
use Rattle.aw_codec.specs.Ranges.{RefSized}
use Rattle.aw_codec.proofs.writing.add_each_ref.Given as goal

abbrev pub invariant-loop-reference : goal.invariant-loop-reference
invariant-loop-reference l = record {
  added : l.text ≡ l.initial.text ++ flat_map spelled_ref (take l.reference-index l.refs);
  sized : Each RefSized (take l.reference-index l.refs);
}
