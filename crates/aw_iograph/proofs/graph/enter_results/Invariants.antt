use Rattle.std.proofs.Common.{◌≡◌, ◌+◌, ◌++◌, ◌-◌, map, Some}
use Rattle.aw_term.specs.Rules.{upto}
use Rattle.aw_iograph.specs.Occurrences.{given}
use Rattle.aw_iograph.proofs.graph.enter_results.Given as goal

abbrev pub invariant-loop-l : goal.invariant-loop-l
invariant-loop-l l = l.entries ++ map (λ j. Some (given l.child j)) (upto (l.l + 1) (l.count - l.l)) ≡ l.initial.entries ++ map (λ j. Some (given l.child j)) (upto 1 l.count)
