use Rattle.std.proofs.Common.{◌≡◌}
use Rattle.aw_grammar.specs.GrammarOf.{grammar_of}
use Rattle.aw_sched.specs.Answers.{MayCome}
use Rattle.aw_term.specs.WellFormed.{Each}
use Rattle.table_undivided.proofs.compared.take_turns.Given as goal

-- the run is of the grammar, and its choices may be asked of it
abbrev pub invariant-loop : goal.invariant-loop
invariant-loop l = record {
  same : l.run.plain.grammar.now ≡ l.accepted.grammar;
  fit : Each (MayCome (grammar_of l.accepted.grammar)) l.run.events.items;
}
