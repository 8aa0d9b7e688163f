use Rattle.std.proofs.Common.{◌+◌, ◌≤◌, ℕ, take, drop}
use Rattle.std.specs.Prelude.{sum_by}
use Rattle.aw_term.specs.Names.{Ref}
use Rattle.aw_grammar.specs.GrammarOf.{grammar_of}
use Rattle.aw_node_list.specs.Row.{Row}
use Rattle.aw_standing.specs.KeptStates.{HasRoom, IsFitKept, IsKeptBut}
use Rattle.aw_space.specs.Waking.{IsBound}
use Rattle.aw_space.proofs.learning.wake_all.Given as goal

abbrev pub invariant-loop-left : goal.invariant-loop-left
invariant-loop-left g l = record {
  fits : IsFitKept (grammar_of l.grammar) (g.F.Facts.names l.facts) l.kept;
  kept : (row : Row) → IsKeptBut (grammar_of l.grammar) row (g.F.Facts.map l.facts) (g.F.Facts.names l.facts) l.lefts l.fn.kept →
      IsKeptBut (grammar_of l.grammar) row (g.F.Facts.map l.facts) (g.F.Facts.names l.facts) (drop l.left-index l.lefts) l.kept;
  room : (n w : ℕ) → HasRoom l.fn.kept n w → HasRoom l.kept n w;
  fewer : (most : Ref → ℕ) → IsBound (g.F.Facts.map l.facts) (g.F.Facts.names l.facts) l.fn.kept most → IsBound (g.F.Facts.map l.facts) (g.F.Facts.names l.facts) l.kept most;
  steps : (most : Ref → ℕ) → IsBound (g.F.Facts.map l.facts) (g.F.Facts.names l.facts) l.fn.kept most → l.steps ≤ l.fn.steps + sum_by most (take l.left-index l.lefts);
}
