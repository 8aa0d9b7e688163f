use Rattle.std.proofs.Common.{◌≡◌, ◌++◌, map, take}
use Rattle.std.specs.List.{flat_map}
use Rattle.std.specs.Io.{StartsWith}
use Rattle.aw_term.specs.WellFormed.{Each}
use Rattle.aw_term.specs.Views.{ground_of}
use Rattle.aw_codec.specs.Grounds.{spelled_ground}
use Rattle.aw_codec.specs.Ranges.{HeadsInRange, GroundSized}
use Rattle.aw_codec.proofs.ground_writing.+writing.Given as goal

abbrev pub invariant-add_each-loop-ground : goal.invariant-add_each-loop-ground
invariant-add_each-loop-ground l = record {
  added : Each HeadsInRange (map ground_of l.grounds) → l.text ≡ l.initial.text ++ flat_map (λ g. spelled_ground (ground_of g)) (take l.ground-index l.grounds);
  sized : Each GroundSized (map ground_of (take l.ground-index l.grounds));
  kept : StartsWith l.text l.initial.text;
}
