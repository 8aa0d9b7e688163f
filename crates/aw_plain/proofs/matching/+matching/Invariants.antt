use Rattle.std.proofs.Common.{◌≡◌, ◌+◌, ◌*◌, map}
use Rattle.aw_term.specs.Trees.{join}
use Rattle.aw_term.specs.Matching.{Yes, and_then}
use Rattle.aw_term.specs.WellFormed.{symbols, all_symbols}
use Rattle.aw_term.specs.Views.{pattern_of}
use Rattle.aw_choice.specs.ChoiceView.{path_of}
use Rattle.aw_plain_rows.specs.TreeView.{values_of}
use Rattle.aw_plain.specs.MatchView.{behind}
use Rattle.aw_plain.proofs.MatchLemmas.{from}
use Rattle.aw_plain.proofs.matching.+matching.Given as goal

abbrev pub invariant-match_parts-loop-i : goal.invariant-match_parts-loop-i
invariant-match_parts-loop-i l = and_then (Yes (values_of l.taken.items)) (behind (path_of l.at) (from (l.i + 1) l.i l.parts l.trees)) ≡ behind (path_of l.at) (from 1 0 l.parts l.trees)

abbrev pub decreases-match_at : goal.decreases-match_at
decreases-match_at l = 2 * symbols (pattern_of l.pattern.now)

abbrev pub decreases-match_parts : goal.decreases-match_parts
decreases-match_parts l = 2 * all_symbols (join (map pattern_of l.parts.now)) + 1
