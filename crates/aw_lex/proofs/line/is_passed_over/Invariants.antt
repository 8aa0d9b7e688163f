use Rattle.std.proofs.Common.{◌≡◌, drop}
use Rattle.aw_lex.specs.Lines.{passed_over}
use Rattle.aw_lex.proofs.line.is_passed_over.Given as goal

abbrev pub invariant-loop-byte : goal.invariant-loop-byte
invariant-loop-byte l = passed_over (drop l.byte-index l.line) ≡ passed_over l.line
