use Rattle.std.proofs.Common.{◌≡◌, ◌+◌}
use Rattle.aw_term.specs.Matching.{Yes, and_then}
use Rattle.aw_plain_rows.specs.TreeView.{values_of}
use Rattle.aw_plain.proofs.GuardLemmas.{guard_from}
use Rattle.aw_plain.proofs.guard.match_each.Given as goal

abbrev pub invariant-loop-i : goal.invariant-loop-i
invariant-loop-i l = and_then (Yes (values_of l.taken.items)) (guard_from (l.i + 1) l.i l.patterns l.inherited) ≡ guard_from 1 0 l.patterns l.inherited
