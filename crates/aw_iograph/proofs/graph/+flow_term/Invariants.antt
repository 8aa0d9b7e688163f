use Rattle.std.proofs.Common.{◌≡◌, ◌++◌, map, drop}
use Rattle.aw_term.specs.Views.{term_of}
use Rattle.aw_term.specs.WellFormed.{leaves_of}
use Rattle.aw_iograph.specs.Occurrences.{flows_to}
use Rattle.aw_iograph.proofs.graph.+flow_term.Given as goal

abbrev pub invariant-loop-part : goal.invariant-loop-part
invariant-loop-part l =
    l.graph ++ flows_to l.entries l.to (leaves_of (map term_of (drop l.part-index l.part-items))) ≡
    l.initial.graph ++ flows_to l.entries l.to (leaves_of (map term_of l.part-items))
