use Rattle.std.proofs.Common.{◌≡◌, ◌++◌, drop, map}
use Rattle.aw_spec.specs.Lines.{RoleLine}
use Rattle.aw_spec_writer.specs.LineTexts.{text_of_lines}
use Rattle.aw_spec_writer.proofs.lines.push_roles.Given as goal

abbrev pub invariant-loop-name : goal.invariant-loop-name
invariant-loop-name l = l.text ++ text_of_lines (map (λ name. RoleLine name) (drop l.name-index l.name-items)) ≡ l.fn.text ++ text_of_lines (map (λ name. RoleLine name) l.g.roles)
