use Rattle.std.proofs.Common.{◌≡◌, ◌++◌, drop}
use Rattle.aw_spec.specs.TypeLines.{type_names}
use Rattle.aw_spec_writer.specs.SpecLines.{carry_lines}
use Rattle.aw_spec_writer.specs.LineTexts.{text_of_lines}
use Rattle.aw_spec_writer.proofs.types.push_carries.Given as goal

abbrev pub invariant-loop-i : goal.invariant-loop-i
invariant-loop-i l = l.text ++ text_of_lines (carry_lines (type_names l.t) (drop l.i l.t.carries) (drop l.i l.g.sorts)) ≡ l.fn.text ++ text_of_lines
    (carry_lines (type_names l.t) l.t.carries l.g.sorts)
