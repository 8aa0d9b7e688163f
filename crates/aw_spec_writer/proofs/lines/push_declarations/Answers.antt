use Rattle.std.proofs.Common.{map}
use Rattle.std.proofs.lemmas.Result.{on_ok_weaker}
use Rattle.aw_spec.specs.Lines.{RoleLine}
use Rattle.aw_spec_writer.specs.SpecLines.{con_line, sort_line, start_lines}
use Rattle.aw_spec_writer.proofs.Pushing.{four_added}
use Rattle.aw_spec_writer.proofs.lines.push_declarations.Goals as goal

pub returns : goal.returns
returns c =
    let g = c.args.g.now in
    on_ok_weaker c.push_starts.result
    (four_added (map (λ name. RoleLine name) g.roles) (map con_line g.cons) (map (sort_line g.roles) g.sorts) (start_lines g.sorts) _ _ _ _ _
    c.in_ok-push_roles.ensures c.in_ok-push_cons.ensures c.in_ok-push_sorts.ensures)
    c.push_starts.ensures
