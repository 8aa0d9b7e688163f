use Rattle.std.proofs.Common.{◌≡◌, ◌++◌, drop, map}
use Rattle.aw_spec_writer.specs.SpecLines.{sort_line}
use Rattle.aw_spec_writer.specs.LineTexts.{text_of_lines}
use Rattle.aw_spec_writer.proofs.lines.push_sorts.Given as goal

abbrev pub invariant-loop-sort : goal.invariant-loop-sort
invariant-loop-sort l = l.text ++ text_of_lines (map (sort_line l.g.roles) (drop l.sort-index l.sort-items)) ≡ l.fn.text ++ text_of_lines (map (sort_line l.g.roles) l.g.sorts)
