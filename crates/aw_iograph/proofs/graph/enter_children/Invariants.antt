use Rattle.std.proofs.Common.{◌≡◌, ◌+◌, ◌++◌, map, drop}
use Rattle.aw_grammar.specs.GrammarView.{child_of}
use Rattle.aw_iograph.specs.Occurrences.{child_entries}
use Rattle.aw_iograph.proofs.graph.enter_children.Given as goal

abbrev pub invariant-loop-k : goal.invariant-loop-k
invariant-loop-k l =
    l.entries ++ child_entries (l.k + 1) (map (child_of l.g.sorts) (drop l.k l.children)) ≡ l.initial.entries ++ child_entries 1 (map (child_of l.g.sorts) l.children)
