use Rattle.std.proofs.Common.{◌≡◌, ◌++◌, map, drop, Some}
use Rattle.aw_term.specs.Views.{pattern_of}
use Rattle.aw_term.specs.WellFormed.{leaves_of}
use Rattle.aw_iograph.proofs.graph.+enter_pattern.Given as goal

abbrev pub invariant-loop-part : goal.invariant-loop-part
invariant-loop-part l =
    l.entries ++ map (λ v. Some l.at) (leaves_of (map pattern_of (drop l.part-index l.part-items))) ≡
    l.initial.entries ++ map (λ v. Some l.at) (leaves_of (map pattern_of l.part-items))
