use Rattle.std.proofs.Common.{◌≡◌, ◌+◌, ◌≤◌, None, true, map, Contains}
use Rattle.std.specs.Vec.Iter.{into_iter_items}
use Rattle.aw_grammar.specs.GrammarOf.{grammar_of}
use Rattle.aw_node_list.specs.Row.{Row}
use Rattle.aw_node_list.specs.HeldView.{all_of}
use Rattle.aw_store.specs.Equations.{Equation}
use Rattle.aw_store.specs.EquationView.{equation_of}
use Rattle.aw_store.specs.NamedRefs.{Grows, all_named}
use Rattle.aw_store.specs.StoreView.{all_few}
use Rattle.aw_law_sites.specs.Receiving.{add_all, first_clash}
use Rattle.aw_standing.specs.KeptStates.{IsFitKept, IsKept}
use Rattle.aw_space.specs.Waking.{lefts_of, turns_cost}
use Rattle.aw_space.proofs.learning.learn_in_turn.Given as goal

abbrev pub invariant-loop-e : goal.invariant-loop-e
invariant-loop-e g l = record {
  equations : add_all (g.F.Facts.map l.facts) (map equation_of (into_iter_items l.e-iterator)) ≡ add_all (g.F.Facts.map l.fn.facts) (map equation_of l.fn.es.items);
  free : first_clash (g.F.Facts.map l.facts) (map equation_of (into_iter_items l.e-iterator)) ≡ None;
  few : all_few (map equation_of (into_iter_items l.e-iterator)) ≡ true;
  ready : (e : Equation) → Contains (map equation_of (into_iter_items l.e-iterator)) e → g.F.Facts.is_ready l.facts e;
  named : all_named (g.F.Facts.names l.facts) (lefts_of (map equation_of (into_iter_items l.e-iterator))) ≡ true;
  names : Grows (g.F.Facts.names l.fn.facts) (g.F.Facts.names l.facts);
  fits : IsFitKept (grammar_of l.grammar) (g.F.Facts.names l.facts) l.kept;
  kept : (row : Row) → IsKept (grammar_of l.grammar) row (g.F.Facts.map l.fn.facts) (g.F.Facts.names l.fn.facts) l.fn.kept →
      IsKept (grammar_of l.grammar) row (g.F.Facts.map l.facts) (g.F.Facts.names l.facts) l.kept;
  steps : (row : Row) → IsKept (grammar_of l.grammar) row (g.F.Facts.map l.fn.facts) (g.F.Facts.names l.fn.facts) l.fn.kept →
      l.steps + turns_cost (grammar_of l.grammar) (all_of (grammar_of l.grammar) row.items) (g.F.Facts.map l.facts) (map equation_of (into_iter_items l.e-iterator))
      ≤ l.fn.steps + turns_cost (grammar_of l.grammar) (all_of (grammar_of l.grammar) row.items) (g.F.Facts.map l.fn.facts) (map equation_of l.fn.es.items);
}
