use Rattle.std.proofs.Common.{◌≡◌, ◌+◌, ◌++◌, map, drop}
use Rattle.aw_term.specs.Views.{pattern_of}
use Rattle.aw_iograph.specs.Occurrences.{pattern_entries}
use Rattle.aw_iograph.proofs.graph.enter_patterns.Given as goal

abbrev pub invariant-loop-i : goal.invariant-loop-i
invariant-loop-i l =
    l.entries ++ pattern_entries (l.i + 1) (map pattern_of (drop l.i l.patterns)) ≡ l.initial.entries ++ pattern_entries 1 (map pattern_of l.patterns)
