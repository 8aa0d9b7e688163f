use Rattle.std.proofs.Common.{ℕ}
use Rattle.std.specs.Prelude.{◌↔◌}
use Rattle.aw_grammar.specs.GrammarOf.{grammar_of}
use Rattle.aw_iograph.specs.Pairs.{Has, IsFor}
use Rattle.aw_modular.specs.Declaring.{DeclaresBefore, IsElsewhere}
use Rattle.aw_modular.proofs.declaring.declared_elsewhere.Given as goal

abbrev pub invariant-loop-triple : goal.invariant-loop-triple
invariant-loop-triple l = record {
  made : IsFor l.g l.others;
  pairs : (s i j : ℕ) → Has l.others s i j ↔ (IsElsewhere (grammar_of l.g) l.role s × DeclaresBefore l.declared l.triple-index s i j);
}
