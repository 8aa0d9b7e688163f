use Rattle.std.proofs.Common.{◌≡◌, ◌∙◌, ◌++◌, refl, sym, ap, subst, suc, length, drop, Some, slice_get, add-one, append-nil}
use Rattle.std.proofs.lemmas.Option.{slice_get_read}
use Rattle.aw_spec.specs.TypeLines.{type_names}
use Rattle.aw_spec_writer.specs.LineTexts.{text_of_lines}
use Rattle.aw_spec_writer.specs.SpecLines.{shape_line, shape_lines}
use Rattle.aw_spec_writer.proofs.Pushing.{two_added}
use Rattle.aw_spec_writer.proofs.TypeTexts.{shapes_from, no_shapes_from}
use Rattle.aw_spec_writer.proofs.types.push_shapes.Goals as goal

pub returns-in_default : goal.returns-in_default
returns-in_default c =
    let text = c.loop-i.text in
    let none = no_shapes_from (type_names c.args.t.now) c.args.t.now.shapes c.args.g.now.cons c.loop-i.i (sym c.in_default.ensures.value) in
    sym (append-nil text) ∙ ap (λ ls. text ++ text_of_lines ls) (sym none) ∙ c.loop-i.invariant

pub loop-i-preserved : goal.loop-i-preserved
loop-i-preserved c =
    let all = type_names c.args.t.now in
    let items = c.args.t.now.shapes in
    let cons = c.args.g.now.cons in
    let i = c.loop-i.i in
    let item = c.shape-item.result in
    let con = c.in-Some.con.now in
    let read = slice_get_read c.as_slice-shape-items.result.now (length c.as_slice-shape-items.result.now) i item refl c.loop-i-test.true c.shape-item.is in
    let here : slice_get items i ≡ Some item = subst (λ xs. slice_get xs i ≡ Some item) c.as_slice-shape-items.ensures read in
    let step = shapes_from all items cons i item con here (sym c.in-Some.ensures.value) in
    let rest = shape_lines all (drop (suc i) items) (drop (suc i) cons) in
    let pushed : c.push_shape.new.text ≡ c.loop-i.text ++ text_of_lines (shape_line all con.name item) = c.in_ok-push_shape.ensures
    ∙ ap (λ name. c.loop-i.text ++ text_of_lines (shape_line all name item)) c.as_slice.ensures in
    ap (λ n. c.push_shape.new.text ++ text_of_lines (shape_lines all (drop n items) (drop n cons))) (add-one i)
    ∙ two_added (shape_line all con.name item) rest c.loop-i.text c.push_shape.new.text (c.push_shape.new.text ++ text_of_lines rest) pushed refl
    ∙ ap (λ ls. c.loop-i.text ++ text_of_lines ls) (sym step) ∙ c.loop-i.invariant
