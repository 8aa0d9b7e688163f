use Rattle.std.proofs.Common.{◌≡◌, ◌++◌, drop}
use Rattle.aw_spec_writer.specs.SpecLines.{start_lines}
use Rattle.aw_spec_writer.specs.LineTexts.{text_of_lines}
use Rattle.aw_spec_writer.proofs.lines.push_starts.Given as goal

abbrev pub invariant-loop-sort : goal.invariant-loop-sort
invariant-loop-sort l = l.text ++ text_of_lines (start_lines (drop l.sort-index l.sort-items)) ≡ l.fn.text ++ text_of_lines (start_lines l.g.sorts)
