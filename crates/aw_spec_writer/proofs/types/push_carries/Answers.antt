use Rattle.std.proofs.Common.{◌≡◌, ◌∙◌, ◌++◌, refl, sym, ap, subst, suc, length, drop, Some, slice_get, add-one, append-nil}
use Rattle.std.proofs.lemmas.Option.{slice_get_read}
use Rattle.aw_spec.specs.TypeLines.{type_names}
use Rattle.aw_spec_writer.specs.LineTexts.{text_of_lines}
use Rattle.aw_spec_writer.specs.SpecLines.{carry_line, carry_lines}
use Rattle.aw_spec_writer.proofs.Pushing.{two_added}
use Rattle.aw_spec_writer.proofs.TypeTexts.{carries_from, no_carries_from}
use Rattle.aw_spec_writer.proofs.types.push_carries.Goals as goal

pub returns-in_default : goal.returns-in_default
returns-in_default c =
    let text = c.loop-i.text in
    let none = no_carries_from (type_names c.args.t.now) c.args.t.now.carries c.args.g.now.sorts c.loop-i.i (sym c.in_default.ensures.value) in
    sym (append-nil text) ∙ ap (λ ls. text ++ text_of_lines ls) (sym none) ∙ c.loop-i.invariant

pub loop-i-preserved : goal.loop-i-preserved
loop-i-preserved c =
    let all = type_names c.args.t.now in
    let items = c.args.t.now.carries in
    let sorts = c.args.g.now.sorts in
    let i = c.loop-i.i in
    let item = c.carry-item.result in
    let sort = c.in-Some.sort.now in
    let read = slice_get_read c.as_slice-carry-items.result.now (length c.as_slice-carry-items.result.now) i item refl c.loop-i-test.true c.carry-item.is in
    let here : slice_get items i ≡ Some item = subst (λ xs. slice_get xs i ≡ Some item) c.as_slice-carry-items.ensures read in
    let step = carries_from all items sorts i item sort here (sym c.in-Some.ensures.value) in
    let rest = carry_lines all (drop (suc i) items) (drop (suc i) sorts) in
    let pushed : c.push_carry.new.text ≡ c.loop-i.text ++ text_of_lines (carry_line all sort.name item) = c.in_ok-push_carry.ensures
    ∙ ap (λ name. c.loop-i.text ++ text_of_lines (carry_line all name item)) c.as_slice.ensures in
    ap (λ n. c.push_carry.new.text ++ text_of_lines (carry_lines all (drop n items) (drop n sorts))) (add-one i)
    ∙ two_added (carry_line all sort.name item) rest c.loop-i.text c.push_carry.new.text (c.push_carry.new.text ++ text_of_lines rest) pushed refl
    ∙ ap (λ ls. c.loop-i.text ++ text_of_lines ls) (sym step) ∙ c.loop-i.invariant
