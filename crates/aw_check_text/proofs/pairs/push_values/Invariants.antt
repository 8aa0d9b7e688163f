use Rattle.std.proofs.Common.{◌≡◌, ◌++◌, flat_map}
use Rattle.aw_term.specs.Rules.{upto}
use Rattle.aw_check_text.specs.Told.{value_lines}
use Rattle.aw_check_text.specs.PairTests.{has_pair}
use Rattle.aw_check_text.proofs.pairs.push_values.Given as goal

abbrev pub invariant-loop-i : goal.invariant-loop-i
invariant-loop-i l = l.text ≡ l.initial.text ++ flat_map (value_lines (has_pair l.io l.sort) l.name l.gives) (upto 1 l.i)
