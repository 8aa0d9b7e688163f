use Rattle.std.proofs.Common.{ℕ}
use Rattle.std.specs.Prelude.{◌↔◌}
use Rattle.aw_iograph.specs.Pairs.{Has, IsFor}
use Rattle.aw_modular.specs.Declaring.{DeclaresBefore, IsAny}
use Rattle.aw_modular.proofs.declaring.all_declared.Given as goal

abbrev pub invariant-loop-triple : goal.invariant-loop-triple
invariant-loop-triple l = record {
  made : IsFor l.g l.all;
  pairs : (s i j : ℕ) → Has l.all s i j ↔ (IsAny s × DeclaresBefore l.declared l.triple-index s i j);
}
