use Rattle.std.proofs.Common.{◌≡◌, ◌+◌, ◌≤◌, List, map, drop, length}
use Rattle.aw_term.specs.Trees.{join}
use Rattle.aw_term.specs.Names.{Ref}
use Rattle.aw_term.specs.Matching.{Yes, and_then}
use Rattle.aw_term.specs.WellFormed.{all_leaves}
use Rattle.aw_term.specs.Views.{pattern_of}
use Rattle.aw_apply.specs.Guard.{guard_all}
use Rattle.aw_apply.specs.Named.{AreNamed, names_at, as_named}
use Rattle.aw_apply.proofs.GuardLemmas.{all_from}
use Rattle.aw_apply.proofs.guard.guard_all.Given as goal

abbrev pub invariant-loop-i : goal.invariant-loop-i
invariant-loop-i g l =
    let k = g.F.Facts.map l.f in
    let names = g.F.Facts.names l.f in
    ((rs : List Ref) → AreNamed names l.inherited rs → and_then (Yes (names_at names l.bound))
    (as_named (all_from k (l.i + 1) l.i l.patterns rs)) ≡ as_named (guard_all k 1 (map pattern_of l.patterns) rs))
    × (length l.bound + length (all_leaves (join (map pattern_of (drop l.i l.patterns)))) ≤ 64)
