use Rattle.std.proofs.Common.{◌≡◌, ◌+◌, ◌≤◌}
use Rattle.aw_grammar.specs.GrammarOf.{grammar_of}
use Rattle.aw_standing.proofs.AllTested.{TestedTo}
use Rattle.aw_standing.proofs.testing.test_all.Given as goal

abbrev pub invariant-loop-at : goal.invariant-loop-at
invariant-loop-at g l = record {
  tested : TestedTo (grammar_of l.grammar) (g.F.Facts.map l.facts) (g.F.Facts.names l.facts) l.number l.at l.fn.entry l.entry l.fn.work.waiting l.work.waiting;
  spare : l.fn.work.spare ≤ l.work.spare + l.at;
  steps : l.steps ≡ l.fn.steps + l.at;
}
