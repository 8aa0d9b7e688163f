use Rattle.table_language.specs.Parts.{AreFirst}
use Rattle.table_language.proofs.parts.parts_of.Given as goal

abbrev pub invariant-loop-role : goal.invariant-loop-role
invariant-loop-role l = AreFirst l.g l.role l.parts
