use Rattle.std.proofs.Common.{◌≡◌, ◌++◌, drop, map}
use Rattle.aw_spec_writer.specs.SpecLines.{con_line}
use Rattle.aw_spec_writer.specs.LineTexts.{text_of_lines}
use Rattle.aw_spec_writer.proofs.lines.push_cons.Given as goal

abbrev pub invariant-loop-con : goal.invariant-loop-con
invariant-loop-con l = l.text ++ text_of_lines (map con_line (drop l.con-index l.con-items)) ≡ l.fn.text ++ text_of_lines (map con_line l.g.cons)
