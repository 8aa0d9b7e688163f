use Rattle.std.proofs.Common.{◌≡◌, ◌+◌, ◌++◌, map, drop}
use Rattle.aw_term.specs.Views.{term_of}
use Rattle.aw_iograph.specs.Occurrences.{term_flows}
use Rattle.aw_iograph.proofs.graph.flow_terms.Given as goal

abbrev pub invariant-loop-i : goal.invariant-loop-i
invariant-loop-i l =
    l.graph ++ term_flows l.entries l.child l.is_result (l.i + 1) (map term_of (drop l.i l.terms)) ≡ l.initial.graph ++ term_flows l.entries l.child l.is_result 1 (map term_of l.terms)
