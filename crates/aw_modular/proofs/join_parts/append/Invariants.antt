use Rattle.std.proofs.Common.{◌≡◌, ◌++◌}
use Rattle.std.specs.Vec.Iter.{into_iter_items}
use Rattle.aw_modular.proofs.join_parts.append.Given as goal

abbrev pub invariant-loop-rule : goal.invariant-loop-rule
invariant-loop-rule l = l.rules ++ into_iter_items l.rule-iterator ≡ l.initial.rules ++ l.fn.more
