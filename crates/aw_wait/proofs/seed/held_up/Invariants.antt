use Rattle.aw_grammar.specs.GrammarOf.{grammar_of}
use Rattle.aw_iograph.specs.Pairs.{IsFor}
use Rattle.aw_wait.specs.Seeding.{Adds, IsHeldUpBefore}
use Rattle.aw_wait.proofs.seed.held_up.Given as goal

abbrev pub invariant-loop-rule : goal.invariant-loop-rule
invariant-loop-rule l = record {
  made : IsFor l.g l.seed;
  added : Adds l.initial.seed l.seed (IsHeldUpBefore (grammar_of l.g) l.rule);
}
