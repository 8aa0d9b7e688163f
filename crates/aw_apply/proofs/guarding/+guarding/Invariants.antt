use Rattle.std.proofs.Common.{◌≡◌, ◌+◌, ◌*◌, ◌≤◌, map, drop, length}
use Rattle.aw_term.specs.Trees.{join}
use Rattle.aw_term.specs.Matching.{Yes, and_then}
use Rattle.aw_term.specs.WellFormed.{symbols, all_symbols, all_leaves}
use Rattle.aw_term.specs.Views.{pattern_of}
use Rattle.aw_choice.specs.ChoiceView.{path_of}
use Rattle.aw_store.specs.NamedRefs.{parts_at}
use Rattle.aw_apply.specs.Named.{names_at, as_named, behind}
use Rattle.aw_apply.proofs.GuardLemmas.{from}
use Rattle.aw_apply.proofs.guarding.+guarding.Given as goal

abbrev pub invariant-guard_parts-loop-i : goal.invariant-guard_parts-loop-i
invariant-guard_parts-loop-i g l =
    let k = g.F.Facts.map l.f in
    let names = g.F.Facts.names l.f in
    let rs = parts_at k names l.slot in
    (and_then (Yes (names_at names l.bound)) (behind (path_of l.at) (as_named (from k (l.i + 1) l.i l.parts rs))) ≡ and_then
    (Yes (names_at names l.fn.bound)) (behind (path_of l.at) (as_named (from k 1 0 l.parts rs))))
    × (length l.bound + length (all_leaves (join (map pattern_of (drop l.i l.parts)))) ≤ length l.fn.bound + length (all_leaves (join (map pattern_of l.parts))))

abbrev pub decreases-guard_at : goal.decreases-guard_at
decreases-guard_at g l = 4 * symbols (pattern_of l.pattern.now)

abbrev pub decreases-guard_con : goal.decreases-guard_con
decreases-guard_con g l = 4 * all_symbols (join (map pattern_of l.parts.now)) + 3

abbrev pub decreases-guard_parts : goal.decreases-guard_parts
decreases-guard_parts g l = 4 * all_symbols (join (map pattern_of l.parts.now)) + 2

abbrev pub decreases-guard_part : goal.decreases-guard_part
decreases-guard_part g l = 4 * symbols (pattern_of l.part.now) + 1
