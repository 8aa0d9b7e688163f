use Rattle.std.proofs.Common.{map}
use Rattle.std.proofs.lemmas.Result.{on_ok_weaker}
use Rattle.aw_grammar.specs.Declarations.{sort_names}
use Rattle.aw_grammar.specs.GrammarOf.{declarations_of}
use Rattle.aw_spec.specs.TypeLines.{type_names}
use Rattle.aw_spec_writer.specs.SpecLines.{type_lines, shape_lines, carry_lines, depends_line}
use Rattle.aw_spec_writer.proofs.Pushing.{four_added}
use Rattle.aw_spec_writer.proofs.types.push_typing.Goals as goal

pub returns : goal.returns
returns c =
    let s = c.args.s.now in
    let all = type_names s.types in
    on_ok_weaker c.push_depends.result
    (four_added (type_lines s.types) (shape_lines all s.types.shapes s.grammar.cons) (carry_lines all s.types.carries s.grammar.sorts)
    (map (depends_line (sort_names (declarations_of s.grammar))) s.depends) _ _ _ _ _
    c.in_ok-push_types.ensures c.in_ok-push_shapes.ensures c.in_ok-push_carries.ensures)
    c.push_depends.ensures
