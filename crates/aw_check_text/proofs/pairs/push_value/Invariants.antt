use Rattle.std.proofs.Common.{◌≡◌, ◌++◌, flat_map}
use Rattle.aw_term.specs.Rules.{upto}
use Rattle.aw_check_text.specs.Told.{pair_lines}
use Rattle.aw_check_text.specs.PairTests.{has_pair}
use Rattle.aw_check_text.proofs.pairs.push_value.Given as goal

abbrev pub invariant-loop-j : goal.invariant-loop-j
invariant-loop-j l = l.text ≡ l.initial.text ++ flat_map (pair_lines (has_pair l.io l.sort) l.name l.i) (upto 1 l.j)
