use Rattle.std.proofs.Common.{◌≡◌, ◌++◌, drop, map}
use Rattle.aw_spec.specs.Lines.{TypeLine}
use Rattle.aw_spec_writer.specs.LineTexts.{text_of_lines}
use Rattle.aw_spec_writer.proofs.types.push_types.Given as goal

abbrev pub invariant-loop-name : goal.invariant-loop-name
invariant-loop-name l = l.text ++ text_of_lines (map (λ name. TypeLine name) (drop l.name-index l.name-items)) ≡ l.fn.text ++ text_of_lines (map (λ name. TypeLine name) l.t.names)
